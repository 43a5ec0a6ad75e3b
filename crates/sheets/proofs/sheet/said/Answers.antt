use mathlib.Core.Path.{◌≡◌}
use Prim.Native.Nat.{ℕ}
use borrow.Author.Tests.{ne_eqb}
use Rattle.std.proofs.Common.{rules, arith}
use Rattle.records.specs.Width.{width_said}
use Rattle.records.specs.Sheet.{bytes_said}
use Rattle.sheets.proofs.sheet.said.Goals as goal

neither : (b : ℕ) → (b ≡ 5 → ⊥) → (b ≡ 7 → ⊥) → 0 ≡ bytes_said b
unfolding width_said bytes_said
neither b h k = rw (ne_eqb b 5 h, ne_eqb b 7 k)

pub returns-in-5 : goal.returns-in-5
unfolding width_said bytes_said
returns-in-5 c = search rules

pub returns-in-7 : goal.returns-in-7
unfolding width_said bytes_said
returns-in-7 c = search rules

pub returns-in_default : goal.returns-in_default
returns-in_default c = neither _ (omega arith) (omega arith)
