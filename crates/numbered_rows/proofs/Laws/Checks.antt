-- What is proved of Checks.
use Rattle.std.specs.Prelude.{◌≡◌, refl, List, Bool, true, false, cond, ℕ, Option, Some, None}
use Rattle.std.proofs.Common.{arith}
use Rattle.grammar.specs.Document.{Element}
use Rattle.grammar.specs.Parser.{parse}
use Rattle.schema.specs.declared.Checked.{Checked}
use Rattle.numbered_rows.specs.Checks.{JudgedBy, ChecksBy}

-- ---- What a fault says: 6 where the shape is wrong, else 7 where a number is, else 0.

module _ {n : ℕ} where
  pub not_three : (x y : Bool) → n ≡ cond x 6 (cond y 7 0) → n ≡ 3 → ⊥
  not_three true y h k = omega arith
  not_three false true h k = omega arith
  not_three false false h k = omega arith

  pub shape_by : (x y : Bool) → n ≡ cond x 6 (cond y 7 0) → n ≡ 6 → x ≡ true
  shape_by true y h k = refl
  shape_by false true h k = absurd (omega arith)
  shape_by false false h k = absurd (omega arith)

  pub shaped_by : (x y : Bool) → n ≡ cond x 6 (cond y 7 0) → (n ≡ 6 → ⊥) → x ≡ false
  shaped_by true y h k = absurd (k h)
  shaped_by false y h k = refl

  pub numbers_by_lem : (x y : Bool) → n ≡ cond x 6 (cond y 7 0) → n ≡ 0 → y ≡ false
  numbers_by_lem true y h k = absurd (omega arith)
  numbers_by_lem false true h k = absurd (omega arith)
  numbers_by_lem false false h k = refl

  pub number_by : (x y : Bool) → n ≡ cond x 6 (cond y 7 0) → (n ≡ 6 → ⊥) → (n ≡ 0 → ⊥) → y ≡ true
  number_by true y h k z = absurd (k h)
  number_by false true h k z = refl
  number_by false false h k z = absurd (z h)

-- ---- 3, where no fault is 3, says that no document writes the text; else its root is judged.

module _ {faultIn : Element → ℕ} {text : List ℕ} {c : Checked} (w : ChecksBy faultIn text c) where
  pub not_written : ((e : Element) → c.number ≡ faultIn e → c.number ≡ 3 → ⊥) → c.number ≡ 3 → parse text ≡ None
  not_written never z = go (parse text) refl
    where
      go : (d : Option Element) → parse text ≡ d → d ≡ None
      go None p = refl
      go (Some e) p = absurd (never _ (w.written e p).fault_is z)

  pub open_judged : (c.number ≡ 3 → ⊥) → JudgedBy faultIn text c.root c.number
  open_judged z = go (parse text) refl
    where
      go : (d : Option Element) → parse text ≡ d → JudgedBy faultIn text c.root c.number
      go None p = absurd (z (w.unwritten p).0)
      go (Some e) p = w.written e p
