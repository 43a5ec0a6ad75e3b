-- Legality as one sum, whatever the layout: the bits too many, and without the voxel flag those of a vertex number that is too large.
-- Assumes nothing.
use Rattle.std.specs.Prelude.{◌≡◌, ℕ, ◌+◌, ◌*◌, ◌-◌, ◌/◌, ◌%◌, ◌^◌, ◌<◌, ◌≤◌, eqb, leb}
use Rattle.std.proofs.Common.{sym, ap, ◌∙◌, ⊎_elim, arith, lt_of_lt_of_le, le-div_iff_mul-le, mul-le-mul_right, pow_pos, pow_mono, pow-add, eq-eqb, ne_eqb, le-leb, lt-ltb, le-ltb}
use Rattle.std.proofs.Math.Nat.{div-eq_of_lt}
use Rattle.std.proofs.lemmas.Bool.{lt-leb}
use Rattle.records.specs.Limits.{most_vertex}
use Rattle.records.specs.Width.{Width, record_bits}
use Rattle.records.specs.Record.{legal_in}
use Rattle.lists.proofs.Laws.Numbers.{lt?}
use Rattle.records.proofs.Laws.Fields.{above}
use Rattle.records.proofs.Laws.Record.{Sound}
use Rattle.records.proofs.Laws.Widths.{legal_low, legal_high}

-- what a flag leaves of a number
pub once : (f y : ℕ) → (1 - f) * y ≤ y
once f y = let h : (1 - f) * y ≤ 1 * y = mul-le-mul_right y (omega arith) in omega arith

-- a number is at most 1,048,575 exactly where it has no bit past the twentieth
few : (p : ℕ) → eqb (p / 1048576) 0 ≡ leb p most_vertex
few p =
    ⊎_elim (λ (h : p < 1048576). eq-eqb (p / 1048576) 0 (omega arith) ∙ sym (le-leb p most_vertex (omega arith)))
    (λ (h : 1048576 ≤ p). ne_eqb (p / 1048576) 0 (omega arith) ∙ sym (lt-leb p most_vertex (omega arith))) (lt? p 1048576)

module _ {w : Width} (ok : Sound w) (r : ℕ) where
  abbrev sum : ℕ
  sum = r / 2 ^ record_bits w + (1 - r / 2 ^ (w.structure + w.vertex) % 2) * (r % 2 ^ w.vertex / 1048576)

  low : r < 2 ^ (w.structure + w.vertex) → eqb sum 0 ≡ legal_in w r
  low h =
      let whole : r / 2 ^ record_bits w ≡ 0 = div-eq_of_lt (lt_of_lt_of_le h (pow_mono (omega arith))) in
      let flag : r / 2 ^ (w.structure + w.vertex) ≡ 0 = div-eq_of_lt h in
      let is : sum ≡ r % 2 ^ w.vertex / 1048576 = rw (whole, flag) (omega arith) in
      ap (λ (n : ℕ). eqb n 0) is ∙ few (r % 2 ^ w.vertex) ∙ legal_low ok r h

  high : 2 ^ (w.structure + w.vertex) ≤ r → r < 2 ^ record_bits w → eqb sum 0 ≡ legal_in w r
  high h small =
      let c : ℕ = 2 ^ (w.structure + w.vertex) in
      let twice : 2 ^ record_bits w ≡ 2 * c =
      pow-add 2 w.flag (w.structure + w.vertex) ∙ ap (λ (n : ℕ). 2 ^ n * c) ok.flag in
      let again : 1 * c + (r - c) ≡ r = omega arith in
      let flag : r / c ≡ 1 = ap (λ (n : ℕ). n / c) (sym again)
      ∙ above c (pow_pos (w.structure + w.vertex)) 1 (r - c) (omega (arith, twice)) in
      let whole : r / 2 ^ record_bits w ≡ 0 = div-eq_of_lt small in
      let is : sum ≡ 0 = rw (whole, flag) (omega arith) in
      eq-eqb sum 0 is ∙ sym (lt-ltb r (2 ^ record_bits w) small) ∙ legal_high ok r h

  past : 2 ^ record_bits w ≤ r → eqb sum 0 ≡ legal_in w r
  past h =
      let unit : 1 * 2 ^ record_bits w ≤ r = omega arith in
      let whole : 1 ≤ r / 2 ^ record_bits w = (le-div_iff_mul-le (pow_pos (record_bits w))).1 unit in
      let wide : 2 ^ (w.structure + w.vertex) ≤ 2 ^ record_bits w = pow_mono (omega arith) in
      ne_eqb sum 0 (omega arith) ∙ sym (le-ltb r (2 ^ record_bits w) h) ∙ legal_high ok r (omega arith)

  pub legal_sum : eqb sum 0 ≡ legal_in w r
  legal_sum =
      ⊎_elim low
      (λ (h : 2 ^ (w.structure + w.vertex) ≤ r). ⊎_elim (high h) past (lt? r (2 ^ record_bits w)))
      (lt? r (2 ^ (w.structure + w.vertex)))
