use mathlib.Core.Path.{◌≡◌, ◌∙◌}
use mathlib.Core.Bool.{false}
use Prim.Native.Nat.{ℕ, ◌/◌, ◌%◌}
use native.Mathlib.Nat.{div-one, mod-one}
use borrow.Author.Tests.{eq-eqb, ne_eqb}
use Rattle.records.specs.Width.{five, width_said}
use Rattle.records.specs.Record.{legal_in, legal_record}
use Rattle.records.specs.Sheet.{good_word}
use Rattle.sheets.proofs.word.good_word.Goals as goal

in-five : (b n : ℕ) → b ≡ 5 → legal_in five n ≡ good_word (width_said b) n
unfolding width_said good_word
in-five b n e = rw (eq-eqb b 5 e, eq-eqb (n % 1) 0 (mod-one n), div-one)

module _ (b n : ℕ) (e : b ≡ 5 → ⊥) where
  ended : n % 4 ≡ 0 → legal_record (n / 4) ≡ good_word (width_said b) n
  unfolding width_said good_word
  ended h = rw (ne_eqb b 5 e, eq-eqb (n % 4) 0 h)

  not-ended : (n % 4 ≡ 0 → ⊥) → false ≡ good_word (width_said b) n
  unfolding width_said good_word
  not-ended h = rw (ne_eqb b 5 e, ne_eqb (n % 4) 0 h)

pub returns-then-width-eq5 : goal.returns-then-width-eq5
returns-then-width-eq5 c = c.legal_five.ensures ∙ in-five _ _ c.if-width-eq5.true

pub returns-then-word-eq0 : goal.returns-then-word-eq0
returns-then-word-eq0 c = c.legal.ensures ∙ ended _ _ c.if-width-eq5.false c.if-word-eq0.true

pub returns-else-word-eq0 : goal.returns-else-word-eq0
returns-else-word-eq0 c =
    ne_eqb (c.args.word % 4) 0 c.if-word-eq0.false ∙ not-ended _ _ c.if-width-eq5.false c.if-word-eq0.false
