-- What is proved of Listing.
use Rattle.std.specs.Prelude.{◌≡◌, Bool, true, false, ℕ, ◌+◌, ◌/◌, ◌%◌, ◌^◌, ◌<◌, ◌≤◌, length, set}
use Rattle.std.proofs.Math.Path.{refl, sym, ap}
use Rattle.std.proofs.Common.{◌∙◌, arith, length-set, rules}
use mathlib.Core.List.{List, [], ◌∷◌}
use Rattle.lists.specs.Lists.{each}
use Rattle.records.specs.Record.{Location, on_surface, in_volume, record_of, wrapped, Fits}
use Rattle.records.proofs.Laws.Record.{within_fits}
use Rattle.records.specs.Fill.{wrote, wrote_none, wrote_one, wrote_on}
use Rattle.cifti.specs.Maps.{threes, voxel_at}
use Rattle.nodes.specs.Texts.{left}
use Rattle.numbers.specs.Answers.{next_number}
use Rattle.numbers.specs.Quick.{Quick}
use Rattle.numbers.specs.declared.Next.{Next}
use Rattle.numbers.specs.declared.Next.TheVariants.{Number, End, Bad}
use Rattle.models.specs.Numbers.{values_at, InForm, Passes, Threes, NextVoxel, Passes3}
use Rattle.models.proofs.Laws.Numbers.{number_passes, number_ends, number_bad}
use Rattle.models.proofs.Laws.Numbers.{voxel_passes, voxels_end, voxels_cut}
use Rattle.models.specs.declared.listing.Triple.{Triple}
use Rattle.models.specs.declared.listing.Triple.TheVariants as triple
use Rattle.table.specs.Listing.{located, records_listed, AllFit, one_fits, ListWritable}

-- what a loop has still to write
pub record Writing (inVoxels : Bool) (structure : ℕ) (text : List ℕ) (start at : ℕ) (before : List ℕ) (i p : ℕ) (out : List ℕ) :
    Type 0 where
  pub ahead : ListWritable inVoxels structure text i p out
  pub kept : length out ≡ length before
  pub same : wrote at (records_listed inVoxels structure (values_at text start)) before
      ≡ wrote p (records_listed inVoxels structure (values_at text i)) out

wrote_cons : (p r : ℕ) (vs s : List ℕ) → p < length s → wrote p (r ∷ vs) s ≡ wrote (p + 1) vs (set s p r)
wrote_cons p r vs s h = sym (ap (λ l. wrote (p + 1) vs l) (wrote_one p r s h) ∙ wrote_on p (p + 1) (r ∷ []) vs s refl (omega arith))

fit_first : {a : Location} {l : List Location} → AllFit (a ∷ l) → Fits a
fit_first (one_fits h k) = h

fit_rest : {a : Location} {l : List Location} → AllFit (a ∷ l) → AllFit l
fit_rest (one_fits h k) = k

pub writing_start : {v : Bool} {s : ℕ} {text : List ℕ} {start at : ℕ} {out : List ℕ} → ListWritable v s text start at out
    → Writing v s text start at out start at out
writing_start h = record { ahead = h; kept = refl; same = refl }

module _ {v : Bool} {s : ℕ} {text : List ℕ} {start at : ℕ} {before : List ℕ} {i p : ℕ} {out : List ℕ}
    (go : Writing v s text start at before i p out) where
  pub writing_kept : length out ≡ length before
  writing_kept = go.kept

  ends : located v s (values_at text i) ≡ [] → out ≡ wrote at (records_listed v s (values_at text start)) before
  unfolding records_listed each
  ends e = sym (go.same ∙ ap (λ l. wrote p (each record_of l) out) e ∙ wrote_none p out)

  -- one location more
  module _ {a : Location} {j : ℕ} (e : located v s (values_at text i) ≡ a ∷ located v s (values_at text j)) (f : InForm text j) where
    splits : records_listed v s (values_at text i) ≡ record_of a ∷ records_listed v s (values_at text j)
    unfolding records_listed each
    splits = ap (each record_of) e

    fitting : AllFit (a ∷ located v s (values_at text j))
    fitting = rw e at go.ahead.fits

    room : p + 1 + length (records_listed v s (values_at text j)) ≤ length out
    room = omega (arith, go.ahead.room, ap length splits)

    goes_on : {r : ℕ} → r ≡ record_of (wrapped a) → Writing v s text start at before j (p + 1) (set out p r)
    goes_on {r} h =
        let x : r ≡ record_of a = h ∙ ap record_of (within_fits (fit_first fitting)) in
        record {
          ahead = record { form = f; fits = fit_rest fitting; room = omega (arith, room, length-set out p r) };
          kept = length-set out p r ∙ go.kept;
          same = go.same ∙ ap (λ l. wrote p l out) (splits ∙ ap (λ n. n ∷ records_listed v s (values_at text j)) (sym x))
              ∙ wrote_cons p r (records_listed v s (values_at text j)) out (omega (arith, room));
        }

-- ---- Vertices.

module _ {s : ℕ} {text : List ℕ} {start at : ℕ} {before : List ℕ} {i p : ℕ} {out : List ℕ}
    (go : Writing false s text start at before i p out) {r : Next} (e : r ≡ next_number text i) where
  pub vertices_end : r ≡ End → out ≡ wrote at (records_listed false s (values_at text start)) before
  unfolding located each
  vertices_end q = ends go (ap (each (on_surface s)) (number_ends go.ahead.form e q))

  pub vertices_bad : r ≡ Bad → out ≡ wrote at (records_listed false s (values_at text start)) before
  vertices_bad q = absurd (number_bad go.ahead.form e q)

  module _ {x j : ℕ} (q : r ≡ Number x j) where
    here : Passes text i x j
    here = number_passes go.ahead.form e q

    splits_vertex : located false s (values_at text i) ≡ on_surface s x ∷ located false s (values_at text j)
    unfolding located each
    splits_vertex = ap (each (on_surface s)) here.splits

    pub vertex_room : p < length out
    vertex_room = omega (arith, room go splits_vertex here.form)

    pub vertex_less : left text j < left text i
    vertex_less = here.ahead

    pub vertex_on : {n : ℕ} → n ≡ record_of (wrapped (on_surface s x)) → Writing false s text start at before j (p + 1) (set out p n)
    vertex_on h = goes_on go splits_vertex here.form h

-- the same, by a quick reading
module _ {s : ℕ} {text : List ℕ} {start at : ℕ} {before : List ℕ} {i p : ℕ} {out : List ℕ}
    (go : Writing false s text start at before i p out) {quick : ℕ} (h : Quick text i quick) (n : quick ≡ 0 → ⊥) where
  pub quick_room : p < length out
  quick_room = vertex_room go (h.told n) refl

  pub quick_fits : i + quick % 16 < 2 ^ 64
  quick_fits = h.fits n

  pub quick_less : left text (i + quick % 16) < left text i
  quick_less = vertex_less go (h.told n) refl

  pub quick_on : {r : ℕ} → r ≡ record_of (wrapped (on_surface s (quick / 16)))
      → Writing false s text start at before (i + quick % 16) (p + 1) (set out p r)
  quick_on x = vertex_on go (h.told n) refl x

pub ruleset overVertices = (
  writing_start,
  writing_kept,
  vertices_end,
  vertices_bad,
  vertex_room,
  vertex_less,
  vertex_on,
  quick_room,
  quick_fits,
  quick_less,
  quick_on,
  rules,
)

-- ---- Voxels.

module _ {s : ℕ} {text : List ℕ} {start at : ℕ} {before : List ℕ} {i p : ℕ} {out : List ℕ}
    (go : Writing true s text start at before i p out) {r : Triple} (next : NextVoxel text i r) where
  e : Threes text i r
  e = next.told go.ahead.form

  pub voxels_stop : r ≡ triple.End → out ≡ wrote at (records_listed true s (values_at text start)) before
  unfolding located each threes
  voxels_stop q = ends go (ap (λ l. each (voxel_at s) (threes l)) (voxels_end e q))

  few_threes : (l : List ℕ) → length l < 3 → threes l ≡ []
  unfolding threes
  few_threes [] h = refl
  few_threes (a ∷ []) h = refl
  few_threes (a ∷ b ∷ []) h = refl
  few_threes (a ∷ b ∷ c ∷ l) h = absurd (omega arith)

  pub voxels_short : r ≡ triple.Cut → out ≡ wrote at (records_listed true s (values_at text start)) before
  unfolding located each
  voxels_short q = ends go (ap (each (voxel_at s)) (few_threes (values_at text i) (voxels_cut e q).few))

  module _ {x y z behind : ℕ} (q : r ≡ triple.Voxel x y z behind) where
    passed : Passes3 text i x y z behind
    passed = voxel_passes e q

    splits_voxel : located true s (values_at text i) ≡ in_volume s x y z ∷ located true s (values_at text behind)
    unfolding located each threes voxel_at
    splits_voxel = ap (λ l. each (voxel_at s) (threes l)) passed.splits

    pub voxel_room : p < length out
    voxel_room = omega (arith, room go splits_voxel passed.form)

    pub voxel_less : left text behind < left text i
    voxel_less = passed.ahead

    pub voxel_on : {n : ℕ} → n ≡ record_of (wrapped (in_volume s x y z)) → Writing true s text start at before behind (p + 1) (set out p n)
    voxel_on h = goes_on go splits_voxel passed.form h

pub ruleset overVoxels = (writing_start, writing_kept, voxels_stop, voxels_short, voxel_room, voxel_less, voxel_on, rules)
