-- The turns of the loops over the numbers of a list.
use Rattle.std.specs.Prelude.{◌≡◌, refl, List, [], ◌∷◌, Bool, ◌||◌, ℕ, ◌+◌, ◌*◌, ◌<◌, ◌≤◌, ltb}
use Rattle.std.proofs.Math.Path.{sym, ap}
use Rattle.std.proofs.Common.{ap₂, ◌∙◌, arith, rules}
use Rattle.std.proofs.Math.Bool.{true, false, not}
use Rattle.std.proofs.Math.Dec.{eqb}
use Rattle.std.proofs.Math.ListN.{length}
use borrow.Author.Tests.{eqb-true, eq-eqb, ne_eqb, eqb-false, not-true, not-false}
use Rattle.lists.proofs.Laws.Booleans.{or_assoc, or_false}
use Rattle.lists.specs.Lists.{any}
use Rattle.nodes.specs.Texts.{left}
use Rattle.nodes.proofs.Laws.TextSteps.{left_most}
use Rattle.numbers.specs.Answers.{next_number}
use Rattle.cifti.specs.Maps.{Voxel, voxel, threes}
use Rattle.cifti.specs.Conditions.{outside}
use Rattle.models.specs.Numbers.{values_at, InForm, Passes, Threes, NextVoxel, Passes3}
use Rattle.models.proofs.Laws.Numbers.{number_passes, number_ends, number_bad}
use Rattle.models.proofs.Laws.Numbers.{voxel_passes, voxels_end, voxels_cut}
use Rattle.numbers.specs.declared.Next.{Next}
use Rattle.numbers.specs.declared.Next.TheVariants.{Number, End, Bad}
use Rattle.models.specs.declared.listing.Triple.{Triple}
use Rattle.models.specs.declared.listing.Triple.TheVariants as triple
use Rattle.models.specs.Verdicts.{verdict_by, vertices_verdict, voxels_verdict}

-- ---- Vertices, one by one.

any_one : (p : ℕ → Bool) (v : ℕ) (l : List ℕ) → any p (v ∷ l) ≡ (p v || any p l)
unfolding any
any_one p v l = refl

any_nil : (p : ℕ → Bool) → any p [] ≡ false
unfolding any
any_nil p = refl

pub record Vertices (text : List ℕ) (start surface n : ℕ) (out : Bool) (i : ℕ) : Type 0 where
  pub form : InForm text i
  pub fewer : n + left text i ≤ length text
  pub counted : length (values_at text start) ≡ n + length (values_at text i)
  pub past : any (λ v. not (ltb v surface)) (values_at text start) ≡ (out || any (λ v. not (ltb v surface)) (values_at text i))

pub vertices_start : {text : List ℕ} {start : ℕ} (surface : ℕ) → InForm text start → Vertices text start surface 0 false start
vertices_start {text} {start} surface f =
    record { form = f; fewer = omega (arith, left_most text start); counted = omega arith; past = refl }

module _ {text : List ℕ} {start surface n i : ℕ} {out : Bool} (go : Vertices text start surface n out i) {r : Next}
    (e : r ≡ next_number text i) where
  pub vertices_done : r ≡ End → (size : ℕ) {a : ℕ} → a ≡ verdict_by (eqb n size) out → a ≡ vertices_verdict size surface (values_at text start)
  unfolding vertices_verdict
  vertices_done q size x =
      let none = number_ends go.form e q in
      let l : length (values_at text start) ≡ n = omega (arith, go.counted, ap length none) in
      let p = go.past ∙ ap (λ k. out || any (λ v. not (ltb v surface)) k) none ∙ ap (λ b. out || b) (any_nil (λ v. not (ltb v surface)))
      ∙ or_false out in
      x ∙ sym (ap₂ verdict_by (ap (λ k. eqb k size) l) p)

  pub vertices_bad : r ≡ Bad → (size : ℕ) → 0 ≡ vertices_verdict size surface (values_at text start)
  vertices_bad q size = absurd (number_bad go.form e q)

  module _ {v j : ℕ} (q : r ≡ Number v j) where
    here : Passes text i v j
    here = number_passes go.form e q

    pub vertices_less : left text j < left text i
    vertices_less = here.ahead

    pub vertices_on : Vertices text start surface (n + 1) (out || not (ltb v surface)) j
    vertices_on = record {
      form = here.form;
      fewer = omega (arith, go.fewer, here.ahead);
      counted = omega (arith, go.counted, ap length here.splits);
      past = go.past ∙ ap (λ l. out || any (λ v. not (ltb v surface)) l) here.splits
          ∙ ap (λ b. out || b) (any_one (λ v. not (ltb v surface)) v (values_at text j)) ∙ or_assoc out (not (ltb v surface)) _;
    }

pub ruleset overVertices = (vertices_start, vertices_done, vertices_bad, vertices_less, vertices_on, rules)

-- ---- Voxels, three numbers at a time.

threes_one : (i j k : ℕ) (l : List ℕ) → threes (i ∷ j ∷ k ∷ l) ≡ voxel i j k ∷ threes l
unfolding threes
threes_one i j k l = refl

threes_none : threes [] ≡ []
unfolding threes
threes_none = refl

out_one : (volume v : Voxel) (l : List Voxel) → any (outside volume) (v ∷ l) ≡ (outside volume v || any (outside volume) l)
unfolding any
out_one volume v l = refl

out_nil : (volume : Voxel) → any (outside volume) [] ≡ false
unfolding any
out_nil volume = refl

pub record Voxels (text : List ℕ) (start : ℕ) (volume : Voxel) (n : ℕ) (out : Bool) (at : ℕ) : Type 0 where
  pub form : InForm text at
  pub fewer : n + left text at ≤ length text
  pub counted : length (values_at text start) ≡ 3 * n + length (values_at text at)
  pub past : any (outside volume) (threes (values_at text start)) ≡ (out || any (outside volume) (threes (values_at text at)))

pub voxels_start : {text : List ℕ} {start : ℕ} (volume : Voxel) → InForm text start → Voxels text start volume 0 false start
voxels_start {text} {start} volume f =
    record { form = f; fewer = omega (arith, left_most text start); counted = omega arith; past = refl }

by_three : (n size : ℕ) → eqb (3 * n) (3 * size) ≡ eqb n size
by_three n size = go (eqb n size) refl
  where
    go : (b : Bool) → eqb n size ≡ b → eqb (3 * n) (3 * size) ≡ b
    go true e = let z = eqb-true n size e in eq-eqb (3 * n) (3 * size) (omega arith)
    go false e = let z : n ≡ size → ⊥ = eqb-false n size e in ne_eqb (3 * n) (3 * size) (λ w. z (omega arith))

module _ {text : List ℕ} {start n at : ℕ} {volume : Voxel} {out : Bool} (go : Voxels text start volume n out at) {r : Triple}
    (x : NextVoxel text at r) where
  e : Threes text at r
  e = x.told go.form

  pub voxels_done : r ≡ triple.End → (size : ℕ) {a : ℕ} → a ≡ verdict_by (eqb n size) out
      → a ≡ voxels_verdict size volume (values_at text start)
  unfolding voxels_verdict
  voxels_done q size x =
      let none = voxels_end e q in
      let l : length (values_at text start) ≡ 3 * n = omega (arith, go.counted, ap length none) in
      let p = go.past ∙ ap (λ k. out || any (outside volume) (threes k)) none ∙ ap (λ k. out || any (outside volume) k) threes_none
      ∙ ap (λ b. out || b) (out_nil volume) ∙ or_false out in
      x ∙ sym (ap₂ verdict_by (ap (λ k. eqb k (3 * size)) l ∙ by_three n size) p)

  pub voxels_short : r ≡ triple.Cut → (size : ℕ) → 11 ≡ voxels_verdict size volume (values_at text start)
  unfolding voxels_verdict verdict_by
  voxels_short q size =
      let s = voxels_cut e q in
      let z : eqb (length (values_at text start)) (3 * size) ≡ false =
      ne_eqb (length (values_at text start)) (3 * size) (λ w. omega (arith, go.counted, s.some, s.few)) in
      sym (rw z)

  module _ {i j k behind : ℕ} (q : r ≡ triple.Voxel i j k behind) where
    passed : Passes3 text at i j k behind
    passed = voxel_passes e q

    pub voxels_form : InForm text behind
    voxels_form = passed.form

    pub voxels_less : left text behind < left text at
    voxels_less = passed.ahead

    pub voxels_on : {b : Bool} → b ≡ outside volume (voxel i j k) → Voxels text start volume (n + 1) (out || b) behind
    voxels_on {b} x = record {
      form = passed.form;
      fewer = omega (arith, go.fewer, passed.ahead);
      counted = omega (arith, go.counted, ap length passed.splits);
      past = go.past ∙ ap (λ l. out || any (outside volume) (threes l)) passed.splits
          ∙ ap (λ l. out || any (outside volume) l) (threes_one i j k (values_at text behind))
          ∙ ap (λ t. out || t) (out_one volume (voxel i j k) (threes (values_at text behind))
          ∙ ap (λ t. t || any (outside volume) (threes (values_at text behind))) (sym x)) ∙ or_assoc out b _;
    }

pub ruleset overVoxels = (voxels_start, voxels_done, voxels_short, voxels_less, voxels_on, rules)

-- ---- By tests.

module _ (even out : Bool) where
  pub verdict_uneven : not even ≡ true → 11 ≡ verdict_by even out
  unfolding verdict_by
  verdict_uneven h = let e : even ≡ false = not-true even h in rw e

  pub verdict_out : not even ≡ false → out ≡ true → 12 ≡ verdict_by even out
  unfolding verdict_by
  verdict_out h k = let e : even ≡ true = not-false even h in rw (e, k)

  pub verdict_fine : not even ≡ false → out ≡ false → 0 ≡ verdict_by even out
  unfolding verdict_by
  verdict_fine h k = let e : even ≡ true = not-false even h in rw (e, k)

pub ruleset byTests = (verdict_uneven, verdict_out, verdict_fine, rules)
