-- The part of the longer sheet by its place: inside the sheet that has it, and the bytes there. Assumes nothing.
use Rattle.std.specs.Prelude.{◌≡◌, ◌⊎◌, Bool, List, [], ℕ, ◌+◌, ◌-◌, ◌≤◌, ◌<◌, length, take, drop}
use Rattle.std.proofs.Math.Path.{refl, sym}
use Rattle.std.proofs.Common.{ap, ◌∙◌, subst, ⊎_elim, arith, take_all}
use Rattle.std.proofs.Math.Logic.{inl, inr}
use Rattle.std.proofs.Math.Bool.{true, false}
use Rattle.std.proofs.Math.Dec.{eqb, ltb}
use Rattle.std.proofs.Math.ListN.{length-drop}
use borrow.Author.Tests.{lt-ltb, le-ltb, ltb-true, ltb-false, ne_eqb, eqb-true}
use Rattle.lists.proofs.Laws.Numbers.{eq?}
use Rattle.records.specs.Outcome.{unless}
use Rattle.records.specs.Sheet.{count_of}
use Rattle.comparison.specs.Compare.{compare_refusal, record_place, behind_records, tail_of, placed}
use Rattle.comparison.specs.declared.TailPlace.{TailPlace}
use Rattle.comparison.proofs.Laws.Accepted.{accepted, fine}
use Rattle.comparison.proofs.Laws.Counts.{start_inside}

-- so many bytes of a sheet from a place on
pub record PartAt (s : List ℕ) (start size : ℕ) (part : List ℕ) : Type 0 where
  pub inside : start + size ≤ length s
  pub is : take (start + size - start) (drop start s) ≡ part

-- ---- As the code comes by it.

nowhere : (s t : List ℕ) (n : ℕ) → (n ≡ 0 → ⊥) → placed n s t ≡ record { number = n; sheet = 0; start = 0; length = 0 }
unfolding placed
nowhere s t n h = rw (ne_eqb n 0 h) refl

pub place_refused : (s t : List ℕ) (room : ℕ) {n : ℕ} → n ≡ compare_refusal s t room → (n ≡ 0 → ⊥)
    → record { number = n; sheet = 0; start = 0; length = 0 } ≡ placed (compare_refusal s t room) s t
place_refused s t room {n} e h = sym (nowhere s t n h) ∙ ap (λ (k : ℕ). placed k s t) e

module _ (s t : List ℕ) (start : ℕ) where
  in_second : ltb (count_of s) (count_of t) ≡ true → start ≡ record_place (count_of s) t
      → placed 0 s t ≡ record { number = 0; sheet = 1; start = start; length = length t - start }
  unfolding placed tail_of behind_records
  in_second b at = rw (b, sym at, length-drop start t) refl

  in_first : ltb (count_of s) (count_of t) ≡ false → start ≡ record_place (count_of t) s
      → placed 0 s t ≡ record { number = 0; sheet = 0; start = start; length = length s - start }
  unfolding placed tail_of behind_records
  in_first b at = rw (b, sym at, length-drop start s) refl

module _ (s t : List ℕ) {n m start : ℕ} (ns : n ≡ count_of s) (ms : m ≡ count_of t) where
  pub place_second : n < m → start ≡ record_place n t
      → record { number = 0; sheet = 1; start = start; length = length t - start } ≡ placed 0 s t
  place_second h q = sym (in_second s t start (lt-ltb (count_of s) (count_of t) (omega arith)) (q ∙ ap (λ (k : ℕ). record_place k t) ns))

  pub place_first : m ≤ n → start ≡ record_place m s
      → record { number = 0; sheet = 0; start = start; length = length s - start } ≡ placed 0 s t
  place_first h q = sym (in_first s t start (le-ltb (count_of s) (count_of t) (omega arith)) (q ∙ ap (λ (k : ℕ). record_place k s) ms))

-- ---- What it says.

-- the bytes behind a record that the sheet has, or behind its last
rest_at : (l : List ℕ) (at : ℕ) → at ≤ length l → PartAt l at (length (drop at l)) (drop at l)
rest_at l at h =
    let d : length (drop at l) ≡ length l - at = length-drop at l in
    record { inside = omega arith; is = take_all (at + length (drop at l) - at) (drop at l) (omega arith) }

nothing_at : (l : List ℕ) → PartAt l 0 0 []
nothing_at l = record { inside = omega arith; is = refl }

module _ (s t : List ℕ) (room : ℕ) where
  abbrev number : ℕ
  number = compare_refusal s t room

  abbrev at : TailPlace
  at = placed number s t

  abbrev part : List ℕ
  part = unless number (tail_of s t) []

  abbrev Where : Type 0
  Where = ((at.sheet ≡ 1) × PartAt t at.start at.length part) ⊎ ((at.sheet ≡ 0) × PartAt s at.start at.length part)

  where_is : Where
  unfolding placed tail_of behind_records
  where_is = by (eqb number 0) refl (ltb (count_of s) (count_of t)) refl
    where
      by : (a : Bool) → eqb number 0 ≡ a → (b : Bool) → ltb (count_of s) (count_of t) ≡ b → Where
      by false e b f = inr (rw e (refl, nothing_at s))
      by true e true f =
          let ok = accepted s t room refl (eqb-true number 0 e) in
          let h = ltb-true (count_of s) (count_of t) f in
          inl (rw (e, f) (refl, rest_at t (record_place (count_of s) t) (start_inside t (fine t ok.two).0 (count_of s) (omega arith))))
      by true e false f =
          let ok = accepted s t room refl (eqb-true number 0 e) in
          let h = ltb-false (count_of s) (count_of t) f in
          inr (rw (e, f) (refl, rest_at s (record_place (count_of t) s) (start_inside s (fine s ok.one).0 (count_of t) (omega arith))))

  module _ {a : TailPlace} (is : a ≡ at) where
    pub part_second : a.sheet ≡ 1 → PartAt t a.start a.length part
    part_second h =
        let q : at.sheet ≡ 1 = ap (λ (x : TailPlace). x.sheet) (sym is) ∙ h in
        subst (λ (x : TailPlace). PartAt t x.start x.length part) (sym is)
        (⊎_elim (λ w. w.1) (λ w. let z = w.0 in absurd (omega arith)) where_is)

    pub part_first : (a.sheet ≡ 1 → ⊥) → PartAt s a.start a.length part
    part_first h = subst (λ (x : TailPlace). PartAt s x.start x.length part) (sym is)
        (⊎_elim (λ w. absurd (h (ap (λ (x : TailPlace). x.sheet) is ∙ w.0))) (λ w. w.1) where_is)

    -- in the sheet that is chosen by it
    pub part_in_second : {l : List ℕ} → l ≡ t → a.sheet ≡ 1 → PartAt l a.start a.length part
    part_in_second e h = subst (λ (x : List ℕ). PartAt x a.start a.length part) (sym e) (part_second h)

    pub part_in_first : {l : List ℕ} → l ≡ s → (a.sheet ≡ 1 → ⊥) → PartAt l a.start a.length part
    part_in_first e h = subst (λ (x : List ℕ). PartAt x a.start a.length part) (sym e) (part_first h)

    -- one of the two sheets holds it
    pub part_inside : a.start + a.length ≤ length s + length t
    part_inside = ⊎_elim (λ e. let h = (part_second e).inside in omega arith) (λ n. let h = (part_first n).inside in omega arith)
        (eq? a.sheet 1)
