-- The digits of a power: what their reader finds.
use Rattle.std.proofs.Math.Path.{◌≡◌, refl, ap}
use Rattle.std.proofs.Common.{sym, ◌∙◌, arith, rules, Option, Some, None, ℤ}
use Rattle.std.specs.Prelude.{List, Bool, true, not, ℕ, ◌+◌, ◌-◌, ◌^◌, ◌≤◌, ◌<◌, ℤ, ◌-ℤ◌, length}
use Rattle.std.proofs.Math.Bool.{false}
use Rattle.std.proofs.Math.IntN.{pos}
use Rattle.std.proofs.lemmas.Bool.{not-false}
use Rattle.grammar.specs.Bytes.{blank}
use Rattle.numbers.specs.Numbers.{digits, value, Sign, with_sign, in_power}
use Rattle.numbers.proofs.Laws.Cuts.{digits_are, number_below, powers}
use Rattle.numbers.specs.Cuts.{Uncut}
use Rattle.numbers.specs.Stream.{stream, word_ends, digits_at}
use Rattle.numbers.proofs.Laws.Stream.{Ran, digits_law}
use Rattle.numbers.specs.Spelled.{reads, fails, power_digits, power_value, Raised}
use Rattle.numbers.proofs.Laws.Ahead.{uncut_blank, cut, word, word_uncut, word_splits, word_empty, word_on}
use Rattle.numbers.proofs.Laws.Integers.{power_is, power_no}
use Rattle.numbers.specs.Answers.{power_in}
use Rattle.numbers.specs.declared.Source.{Source}
use Rattle.numbers.specs.declared.Run.{Run}
use Rattle.numbers.specs.declared.Decimal.{Decimal}

pub two : (2 ≤ 15) × (0 < 10 ^ (15 - 2))
two = omega arith

module _ (source : Source) (text : List ℕ) (at : ℕ) {run : Run} (er : run ≡ digits_at source text 2 0 0 at) where
  ran : Ran source text 2 0 0 at run
  ran = rw er (digits_law source text 2 0 0 at)

  pub raised_room : run.value < 100
  raised_room =
      let p : 10 ^ (0 + length ran.read) ≤ 10 ^ 2 = powers (0 + length ran.read) 2 (omega (arith, ran.few)) in
      omega (arith, number_below 0 0 ran.read ran.all_digits (omega arith), ran.valued)

  module _ (s : Sign) (a : ℤ) (n : ℕ) where
    wrong : digits 1 2 (word ran) ≡ false → Raised source text at s a n None
    unfolding power_digits
    wrong h = record { reading = fails (word ran) (cut ran).rest (rw h refl) (word_uncut ran) (word_splits ran) (cut ran).ends }

    pub raised_none : run.count ≡ 0 → Raised source text at s a n None
    raised_none z = wrong (word_empty ran z)

    module _ {t : Bool} (e : t ≡ word_ends (stream source text run.next)) where
      pub raised_on : not t ≡ true → Raised source text at s a n None
      raised_on h = wrong (word_on ran e h)

      module _ (some : run.count ≡ 0 → ⊥) (h : not t ≡ false) {p : Option ℤ} (ep : p ≡ power_in (with_sign s run.value -ℤ pos n)) where
        right : digits 1 2 ran.read ≡ true
        right = digits_are 1 2 ran.read ran.all_digits (omega (arith, ran.counted)) ran.few

        is : with_sign s run.value -ℤ pos n ≡ with_sign s (value ran.read) -ℤ pos n
        unfolding value
        is = ap (λ z. with_sign s z -ℤ pos n) ran.valued

        uncut : Uncut blank ran.read
        uncut = uncut_blank 2 ran.read ran.all_digits ran.few

        ends : word_ends (stream source text run.next) ≡ true
        ends = sym e ∙ not-false t h

        pub raised_past : p ≡ None → Raised source text at s a n None
        unfolding power_digits
        raised_past q =
            let k : in_power 45 (with_sign s (value ran.read) -ℤ pos n) ≡ false = power_no _ (ep ∙ ap power_in is) q in
            record { reading = fails ran.read (stream source text run.next) (rw (right, k) refl) uncut ran.splits ends }

        pub raised_read : {x : ℤ} → p ≡ Some x → Raised source text at s a n (Some ((record { amount = a; power = x }), run.next))
        unfolding power_digits power_value
        raised_read {x} q =
            let k = power_is (with_sign s (value ran.read) -ℤ pos n) (ep ∙ ap power_in is) q in
            let d : ◌≡◌ {A = Decimal} (record { amount = a; power = x })
            (record { amount = a; power = with_sign s (value ran.read) -ℤ pos n }) = rw k.1 refl in
            record { reading = reads ran.read (rw (right, k.0) refl) d uncut ran.splits ends }

pub ruleset raising = (two, raised_room, raised_none, raised_on, raised_past, raised_read, rules)
