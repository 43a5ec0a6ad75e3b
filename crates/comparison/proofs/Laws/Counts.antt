-- The count of a sheet in good form by its bytes, and where its records begin. Assumes nothing.
use Rattle.std.specs.Prelude.{◌≡◌, refl, true, List, ℕ, ◌+◌, ◌-◌, ◌*◌, ◌/◌, ◌≤◌, ◌<◌, length, get_or}
use Rattle.std.proofs.Common.{sym, ap, ◌∙◌, arith, mul-le-mul_left, mul-le-mul_right, eq-eqb, ne_eqb}
use Rattle.std.proofs.Math.Nat.{mul-div_cancel_left}
use Rattle.records.specs.Width.{width_said}
use Rattle.records.specs.Sheet.{count_of, width_of}
use Rattle.records.proofs.Laws.Sheet.{GoodSheet, sheet_good, count_small}
use Rattle.comparison.specs.Compare.{well_formed, record_place}

pub says_five : (b : ℕ) → b ≡ 5 → (width_said b).bytes ≡ 5
unfolding width_said
says_five b h = rw (eq-eqb b 5 h) refl

pub says_seven : (b : ℕ) → (b ≡ 5 → ⊥) → (width_said b).bytes ≡ 7
unfolding width_said
says_seven b h = rw (ne_eqb b 5 h) refl

module _ (s : List ℕ) (ok : well_formed s ≡ true) where
  good : GoodSheet (width_of s).bytes s
  good = sheet_good (width_of s).bytes s ok

  pub formed_long : 4 ≤ length s
  formed_long = good.long

  pub formed_most : count_of s ≤ 1048576
  formed_most = (count_small (count_of s) good.count).1

  sized : {w : ℕ} → w ≡ (width_of s).bytes → length s ≡ 4 + w * count_of s
  sized e = good.size ∙ ap (λ (n : ℕ). 4 + n * count_of s) (sym e)

  pub count_by_width : {w : ℕ} → w ≡ (width_of s).bytes → 0 < w → (length s - 4) / w ≡ count_of s
  count_by_width {w} e some =
      let z = sized e in
      let q : length s - 4 ≡ w * count_of s = omega arith in
      ap (λ (n : ℕ). n / w) q ∙ mul-div_cancel_left (count_of s) some

  pub count_five : get_or s 0 0 ≡ 5 → (length s - 4) / 5 ≡ count_of s
  count_five h = let z = sized (sym (says_five (get_or s 0 0) h)) in omega arith

  pub count_seven : (get_or s 0 0 ≡ 5 → ⊥) → (length s - 4) / 7 ≡ count_of s
  count_seven h = let z = sized (sym (says_seven (get_or s 0 0) h)) in omega arith

  module _ (i : ℕ) (h : i ≤ count_of s) where
    pub start_five : get_or s 0 0 ≡ 5 → (4 + 5 * i ≡ 4 + (width_of s).bytes * i) × (4 + 5 * i ≤ length s)
    start_five f =
        let e = says_five (get_or s 0 0) f in
        let z = sized (sym e) in
        (ap (λ (n : ℕ). 4 + n * i) (sym e), omega arith)

    pub start_seven : (get_or s 0 0 ≡ 5 → ⊥) → (4 + 7 * i ≡ 4 + (width_of s).bytes * i) × (4 + 7 * i ≤ length s)
    start_seven f =
        let e = says_seven (get_or s 0 0) f in
        let z = sized (sym e) in
        (ap (λ (n : ℕ). 4 + n * i) (sym e), omega arith)

    pub start_inside : record_place i s ≤ length s
    start_inside = let z = good.size in let k : (width_of s).bytes * i ≤ (width_of s).bytes * count_of s = mul-le-mul_left
        (width_of s).bytes h in omega arith

    pub start_few : {w : ℕ} → w ≤ 7 → w * i ≤ 7340032
    start_few {w} few = let m = formed_most in let k : w * i ≤ 7 * i = mul-le-mul_right i few in omega arith
