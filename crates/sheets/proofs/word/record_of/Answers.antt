use mathlib.Core.Path.{◌≡◌, sym, ◌∙◌}
use Prim.Native.Nat.{ℕ, ◌/◌, ◌%◌, ◌^◌}
use native.Mathlib.Nat.{div-one}
use borrow.Author.Tests.{eq-eqb, ne_eqb}
use Rattle.records.specs.Width.{seven, width_said}
use Rattle.records.specs.Record.{carried, widened}
use Rattle.records.specs.Sheet.{bare}
use Rattle.records.proofs.Laws.Record.{seven_sound, record_whole}
use Rattle.sheets.proofs.word.record_of.Goals as goal

in-five : (b n : ℕ) → b ≡ 5 → widened n ≡ carried seven (width_said b) (bare (width_said b) n)
unfolding width_said
in-five b n e = rw (eq-eqb b 5 e, div-one)

in-seven : (b n : ℕ) → (b ≡ 5 → ⊥) → n / 4 % 2 ^ 54 ≡ carried seven (width_said b) (bare (width_said b) n)
unfolding width_said
in-seven b n e = rw (ne_eqb b 5 e) (sym (record_whole seven_sound (n / 4)))

pub returns-then-width-eq5 : goal.returns-then-width-eq5
returns-then-width-eq5 c = c.widen.ensures ∙ in-five _ _ c.if-width-eq5.true

pub returns-else-width-eq5 : goal.returns-else-width-eq5
returns-else-width-eq5 c = in-seven _ _ c.if-width-eq5.false
