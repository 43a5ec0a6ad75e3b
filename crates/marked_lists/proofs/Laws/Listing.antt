-- The turns of the loops over the numbers of a list, and what the list of a model is.
use Rattle.std.specs.Prelude.{◌≡◌, ℕ, ◌+◌, ◌/◌, ◌%◌, ◌^◌, ◌<◌, ◌≤◌, Bool, true, false, not, ◌&&◌, ◌||◌, List, [], ◌∷◌, length, ◌==◌, nat_eq, nat_lt, refl, Option, Some, None}
use Rattle.std.proofs.Common.{sym, ◌∙◌, arith, rules}
use Rattle.std.proofs.Math.Path.{ap}
use Rattle.lists.specs.Lists.{two_of}
use Rattle.grammar.specs.Bytes.{ascii}
use Rattle.nodes.specs.Places.{the}
use Rattle.nodes.specs.Texts.{left}
use Rattle.numbers.specs.Answers.{next_number}
use Rattle.numbers.specs.Quick.{Quick}
use Rattle.numbers.specs.declared.Next.{Next}
use Rattle.numbers.specs.declared.Next.TheVariants.{Number, End, Bad}
use Rattle.cifti.specs.Maps.{Voxel, voxel, Listed, vertices, voxels, model_of, threes, vertex_numbers, voxels_of, same_voxel}
use Rattle.cifti.specs.Conditions.{outside}
use Rattle.maps.specs.Fields.{attribute_word, number_seen}
use Rattle.marks.specs.Marks.{Marked}
use Rattle.marks.specs.Apart.{Marking}
use Rattle.marks.proofs.Laws.Apart.{all_stay, marking_start, marking_not, marking_none, marking_apart, marking_one}
use Rattle.models.specs.Kind.{type_and_structure, type_number}
use Rattle.models.proofs.Laws.Kind.{structure_small}
use Rattle.models.specs.Listings.{listed_numbers, StartOf, ModelKnown}
use Rattle.models.proofs.Laws.ListingSteps.{list_numbers}
use Rattle.models.specs.Numbers.{values_at, InForm, NextVoxel}
use Rattle.models.proofs.Laws.Numbers.{number_passes, number_ends, voxel_passes, voxels_end}
use Rattle.models.specs.Verdicts.{verdict_by}
use Rattle.models.proofs.Laws.Listings.{judge_stands, judge_none, judge_form, judge_voxels, judge_vertices}
use Rattle.models.proofs.Laws.Verdicts.{Vertices, vertices_start, vertices_done, vertices_bad, vertices_less, vertices_on}
use Rattle.models.proofs.Laws.Verdicts.{Voxels, voxels_start, voxels_done, voxels_short, voxels_less, voxels_on}
use Rattle.models.specs.declared.listing.Triple.{Triple}
use Rattle.models.specs.declared.listing.Triple.TheVariants as triple
use Rattle.marked_lists.specs.Places.{voxel_place, vertex_place}
use Rattle.marked_lists.specs.Told.{VerticesTold, VoxelsTold, ModelTold}
use Rattle.marked_lists.proofs.Laws.Places.{one_vertex, one_voxel}
use Rattle.marked_lists.specs.declared.places.Grid.{Grid}
use Rattle.marked_lists.specs.declared.listing.Verdict.{Verdict}

pub not_told : {P : Type 0} {b : Bool} → b ≡ false → b ≡ true → P
not_told f t = absurd (let e : true ≡ false = sym t ∙ f in let k : ◌≡◌ {A = ℕ} 0 1 = cc in omega arith)

-- ---- Vertices, one by one.

pub record VerticesRead (text : List ℕ) (start surface first : ℕ) (before : List ℕ) (n : ℕ) (out apart : Bool) (i : ℕ) (now : List ℕ) :
    Type 0 where
  pub counted : Vertices text start surface n out i
  pub marks : Marking nat_eq (vertex_place first) (values_at text start) (values_at text i) apart before now

pub read_start : {text : List ℕ} {start : ℕ} (surface first : ℕ) (work : List ℕ) → InForm text start
    → VerticesRead text start surface first work 0 false true start work
read_start {text} {start} surface first work f =
    record { counted = vertices_start surface f; marks = marking_start (values_at text start) work }

module _ {text : List ℕ} {start surface first n i : ℕ} {before now : List ℕ} {out apart : Bool}
    (go : VerticesRead text start surface first before n out apart i now) where
  pub read_kept : length now ≡ length before
  read_kept = go.marks.kept.long

  module _ {r : Next} (e : r ≡ next_number text i) where
    pub read_done : r ≡ End → (size : ℕ) {a : ℕ} → a ≡ verdict_by (n == size) out → (v : Verdict) → v.number ≡ a → v.apart ≡ apart
        → VerticesTold size surface (values_at text start) before v now
    read_done q size x v y z = record {
      number_is = y ∙ vertices_done go.counted e q size x;
      apart_is = λ t. marking_apart (rw (number_ends go.counted.form e q) at go.marks) (sym z ∙ t);
      kept = go.marks.kept;
    }

    pub read_bad : r ≡ Bad → (size : ℕ) (v : Verdict) → v.number ≡ 0 → v.apart ≡ false
        → VerticesTold size surface (values_at text start) before v now
    read_bad q size v y z = record {
      number_is = y ∙ vertices_bad go.counted e q size;
      apart_is = not_told z;
      kept = go.marks.kept;
    }

    module _ {v j : ℕ} (q : r ≡ Number v j) where
      pub read_less : left text j < left text i
      read_less = vertices_less go.counted e q

      pub read_on : {p : ℕ} → p ≡ vertex_place first v → {new : Bool} {after : List ℕ} → Marked now p new after
          → VerticesRead text start surface first before (n + 1) (out || not (nat_lt v surface)) (apart && new) j after
      read_on {p} x m = record {
        counted = vertices_on go.counted e q;
        marks = marking_one (one_vertex first)
            (rw (number_passes go.counted.form e q).splits at go.marks) (rw x at m);
      }

-- the same, by a quick reading
module _ {text : List ℕ} {start surface first n i : ℕ} {before now : List ℕ} {out apart : Bool}
    (go : VerticesRead text start surface first before n out apart i now) {quick : ℕ} (h : Quick text i quick) (not-0 : quick ≡ 0 → ⊥)
  where
    pub quick_fits : i + quick % 16 < 2 ^ 64
    quick_fits = h.fits not-0

    pub quick_less : left text (i + quick % 16) < left text i
    quick_less = read_less go (h.told not-0) refl

    pub quick_on : {p : ℕ} → p ≡ vertex_place first (quick / 16) → {new : Bool} {after : List ℕ} → Marked now p new after
        → VerticesRead text start surface first before (n + 1) (out || not (nat_lt (quick / 16) surface)) (apart && new) (i + quick % 16) after
    quick_on x m = read_on go (h.told not-0) refl x m

pub ruleset overVertices = (read_start, read_kept, read_done, read_bad, read_less, read_on, quick_fits, quick_less, quick_on, rules)

-- ---- Voxels, three numbers at a time.

pub record VoxelsRead (text : List ℕ) (start : ℕ) (volume : Voxel) (grid : Grid) (before : List ℕ) (n : ℕ) (out apart : Bool) (at : ℕ)
    (now : List ℕ) : Type 0 where
  pub counted : Voxels text start volume n out at
  pub marks : Marking same_voxel (voxel_place grid) (threes (values_at text start)) (threes (values_at text at)) apart before now

pub threes_start : {text : List ℕ} {start : ℕ} (volume : Voxel) (grid : Grid) (work : List ℕ) → InForm text start
    → VoxelsRead text start volume grid work 0 false true start work
threes_start {text} {start} volume grid work f =
    record { counted = voxels_start volume f; marks = marking_start (threes (values_at text start)) work }

module _ {text : List ℕ} {start n at : ℕ} {volume : Voxel} {grid : Grid} {before now : List ℕ} {out apart : Bool}
    (go : VoxelsRead text start volume grid before n out apart at now) where
  pub threes_kept : length now ≡ length before
  threes_kept = go.marks.kept.long

  module _ {r : Triple} (x : NextVoxel text at r) where
    pub threes_done : r ≡ triple.End → (size : ℕ) {a : ℕ} → a ≡ verdict_by (n == size) out → (v : Verdict) → v.number ≡ a
        → v.apart ≡ apart
        → VoxelsTold size volume grid (values_at text start) before v now
    unfolding threes
    threes_done q size b v y z = record {
      number_is = y ∙ voxels_done go.counted x q size b;
      marks = rw z (rw (voxels_end (x.told go.counted.form) q) at go.marks);
    }

    pub threes_short : r ≡ triple.Cut → (size : ℕ) (v : Verdict) → v.number ≡ 11 → v.apart ≡ false
        → VoxelsTold size volume grid (values_at text start) before v now
    threes_short q size v y z = record {
      number_is = y ∙ voxels_short go.counted x q size;
      marks = rw z (marking_not go.marks.kept);
    }

    module _ {i j k behind : ℕ} (q : r ≡ triple.Voxel i j k behind) where
      pub threes_less : left text behind < left text at
      threes_less = voxels_less go.counted x q

      splits : threes (values_at text at) ≡ voxel i j k ∷ threes (values_at text behind)
      unfolding threes
      splits = ap threes (voxel_passes (x.told go.counted.form) q).splits

      pub threes_on : {b : Bool} → b ≡ outside volume (voxel i j k) → {p : ℕ} → p ≡ voxel_place grid (voxel i j k) → {new : Bool}
          {after : List ℕ} → Marked now p new after
          → VoxelsRead text start volume grid before (n + 1) (out || b) (apart && new) behind after
      threes_on o y m = record {
        counted = voxels_on go.counted x q o;
        marks = marking_one (one_voxel grid) (rw splits at go.marks) (rw y at m);
      }

pub ruleset overVoxels = (threes_start, threes_kept, threes_done, threes_short, threes_less, threes_on, rules)

-- ---- The list of a model.

by_kind : (kind s : ℕ) (l : Listed) → kind ≡ type_number l + s → s < 32 → 32 ≤ kind
    → (vertex_numbers l ≡ []) × (voxels_of l ≡ threes (listed_numbers l))
unfolding type_number vertex_numbers voxels_of listed_numbers
by_kind kind s (vertices n l) e h k = absurd (omega arith)
by_kind kind s (voxels l) e h k = (refl, refl)

by_other : (kind s : ℕ) (l : Listed) → kind ≡ type_number l + s → kind < 32 → (vertex_numbers l ≡ listed_numbers l) × (voxels_of l ≡ [])
unfolding type_number vertex_numbers voxels_of listed_numbers
by_other kind s (vertices n l) e k = (refl, refl)
by_other kind s (voxels l) e k = absurd (omega arith)

no_vertices : two_of nat_eq [] ≡ false
unfolding two_of
no_vertices = refl

module _ (volume : Voxel) (grid : Grid) {text : List ℕ} {at size kind : ℕ} (k : ModelKnown text at size kind) {f : Option ℕ}
    (st : StartOf text at f) where
  pub list_none : f ≡ None → (work : List ℕ) (v : Verdict) → v.number ≡ 11 → v.apart ≡ false
      → ModelTold volume grid (model_of (the text at)) work v work
  list_none q work v y z = record {
    number_is = y ∙ judge_none volume k st q;
    vertices_apart = not_told z;
    voxels_marked = rw z (marking_not (all_stay work));
  }

  kind_of : kind ≡ type_number (model_of (the text at)).listed + (model_of (the text at)).structure
  unfolding type_and_structure
  kind_of = k.kind_is

  module _ {i : ℕ} (q : f ≡ Some i) where
    numbers : listed_numbers (model_of (the text at)).listed ≡ values_at text i
    numbers = list_numbers (st.told k.model) q

    pub list_voxels : 32 ≤ kind → {before : List ℕ} {v : Verdict} {after : List ℕ}
        → VoxelsTold size volume grid (values_at text i) before v after
        → ModelTold volume grid (model_of (the text at)) before v after
    list_voxels h t =
        let (a, b) = by_kind kind _ (model_of (the text at)).listed kind_of (structure_small k.model.good) h in
        record {
          number_is = judge_voxels volume k st q h t.number_is;
          vertices_apart = λ _. ap (two_of nat_eq) a ∙ no_vertices;
          voxels_marked = rw (b, numbers) t.marks;
        }

    pub list_vertices : kind < 32 → {surface : ℕ} {before : List ℕ} {v : Verdict} {after : List ℕ}
        → surface ≡ number_seen 1 1048576 (attribute_word (ascii "SurfaceNumberOfVertices") (the text at))
        → VerticesTold size surface (values_at text i) before v after
        → ModelTold volume grid (model_of (the text at)) before v after
    list_vertices h {v = v} s t =
        let (a, b) = by_other kind _ (model_of (the text at)).listed kind_of h in
        record {
          number_is = judge_vertices volume k st q h s t.number_is;
          vertices_apart = λ y. ap (two_of nat_eq) (a ∙ numbers) ∙ t.apart_is y;
          voxels_marked = rw b (marking_none v.apart t.kept);
        }

pub ruleset overModel = (judge_stands, judge_form, list_none, list_voxels, list_vertices, rules)
