use mathlib.Core.Path.{◌≡◌, sym, ap, ◌∙◌}
use mathlib.Core.List.{List}
use Prim.Native.Nat.{ℕ, ◌+◌, ◌*◌, ◌≤◌}
use lib.ListN.{length, take, drop}
use borrow.Author.Tests.{eq-eqb, ne_eqb}
use Rattle.records.specs.Width.{Width, five, seven, width_said}
use Rattle.records.specs.Bytes.{number_written}
use native.Mathlib.Omega.{arith}
use Rattle.sheets.proofs.word.word_at.Goals as goal

-- the layout that a number says
module _ {b : ℕ} where
  is-five : b ≡ 5 → width_said b ≡ five
  unfolding width_said
  is-five e = rw (eq-eqb b 5 e)

  is-seven : (b ≡ 5 → ⊥) → width_said b ≡ seven
  unfolding width_said
  is-seven e = rw (ne_eqb b 5 e)

-- a word lies in the sheet
module _ {b : ℕ} (i : ℕ) (s : List ℕ) where
  fits-five : b ≡ 5 → 4 + (width_said b).bytes * (i + 1) ≤ length s → 4 + 5 * (i + 1) ≤ length s
  fits-five e h = rw (is-five e) at h

  fits-seven : (b ≡ 5 → ⊥) → 4 + (width_said b).bytes * (i + 1) ≤ length s → 4 + 7 * (i + 1) ≤ length s
  fits-seven e h = rw (is-seven e) at h

-- and has the bytes of its layout
read : (b i : ℕ) (s : List ℕ) (w : Width) {r : ℕ} → width_said b ≡ w → r ≡ number_written (take w.bytes (drop (4 + w.bytes * i) s))
    → r ≡ number_written (take (width_said b).bytes (drop (4 + (width_said b).bytes * i) s))
read b i s w is e = e ∙ ap (λ (v : Width). number_written (take v.bytes (drop (4 + v.bytes * i) s))) (sym is)

pub overflow_mul-place : goal.overflow_mul-place
overflow_mul-place c =
    omega (arith, fits-five c.args.place.0 c.args.sheet.now c.if-width-eq5.true c.requires)

pub overflow_add-place : goal.overflow_add-place
overflow_add-place c =
    omega (arith, fits-five c.args.place.0 c.args.sheet.now c.if-width-eq5.true c.requires)

pub five_bytes-requires : goal.five_bytes-requires
five_bytes-requires c =
    omega (arith, fits-five c.args.place.0 c.args.sheet.now c.if-width-eq5.true c.requires)

pub overflow_mul-place-else-width-eq5 : goal.overflow_mul-place-else-width-eq5
overflow_mul-place-else-width-eq5 c =
    omega (arith, fits-seven c.args.place.0 c.args.sheet.now c.if-width-eq5.false c.requires)

pub overflow_add-place-else-width-eq5 : goal.overflow_add-place-else-width-eq5
overflow_add-place-else-width-eq5 c =
    omega (arith, fits-seven c.args.place.0 c.args.sheet.now c.if-width-eq5.false c.requires)

pub seven_bytes-requires : goal.seven_bytes-requires
seven_bytes-requires c =
    omega (arith, fits-seven c.args.place.0 c.args.sheet.now c.if-width-eq5.false c.requires)

pub returns-then-width-eq5 : goal.returns-then-width-eq5
returns-then-width-eq5 c =
    let a = c.args in
    read a.width a.place.0 a.sheet.now five (is-five c.if-width-eq5.true) c.five_bytes.ensures.0

pub returns-else-width-eq5 : goal.returns-else-width-eq5
returns-else-width-eq5 c =
    let a = c.args in
    read a.width a.place.0 a.sheet.now seven (is-seven c.if-width-eq5.false) c.seven_bytes.ensures
