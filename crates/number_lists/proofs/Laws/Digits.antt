-- A plain digit of a value reads as itself.
use Rattle.std.specs.Prelude.{◌≡◌, List, Bool, ℕ, ◌+◌, ◌*◌, ◌-◌, ◌^◌, ◌<◌, ◌≤◌, eqb, leb, length, Some}
use Rattle.std.proofs.Math.Path.{refl, ap}
use Rattle.std.proofs.Common.{sym, ◌∙◌, arith, rules}
use Rattle.std.proofs.Math.Bool.{true, false, not}
use borrow.Author.Tests.{leb-true, eq-eqb, not-false}
use Rattle.std.proofs.Math.ListN.{get_or}
use Rattle.lists.proofs.Laws.Booleans.{and_left, and_right, clash}
use Rattle.grammar.proofs.Laws.Tokens.{high_no_blank}
use Rattle.nodes.proofs.Laws.Values.{decode_plain}
use Rattle.numbers.specs.Numbers.{digit}
use Rattle.numbers.specs.Stream.{char_at}
use Rattle.numbers.proofs.Laws.Read.{running_start, running_times, running_room, running_on}
use Rattle.numbers.specs.Read.{Running}
use Rattle.numbers.specs.declared.Source.{Source}
use Rattle.numbers.specs.declared.Source.TheVariants.{Value}
use Rattle.number_lists.specs.Digits.{plain_digit}

module _ (q b : ℕ) (yes : plain_digit q b ≡ true) where
  pub plain_from : 48 ≤ b
  unfolding plain_digit digit
  plain_from = leb-true 48 b (and_left (leb 48 b) (leb b 57) (and_left (digit b) (not (eqb b q)) yes))

  plain_to : b ≤ 57
  unfolding plain_digit digit
  plain_to = leb-true b 57 (and_right (leb 48 b) (leb b 57) (and_left (digit b) (not (eqb b q)) yes))

  plain_other : b ≡ q → ⊥
  unfolding plain_digit
  plain_other e =
      let n : not (eqb b q) ≡ true = and_right (digit b) (not (eqb b q)) yes in
      let t : not (eqb b q) ≡ false = ap not (eq-eqb b q e) in clash (cc)

pub digit_least : (q b : ℕ) {t : Bool} → t ≡ plain_digit q b → t ≡ true → 48 ≤ b
digit_least q b e h = plain_from q b (sym e ∙ h)

module _ {q : ℕ} {text : List ℕ} {most before at n k i : ℕ} (go : Running (Value q) text most before at n k i) (left : k < most)
    (inside : i < length text) {b : ℕ} (is_byte_lem : b ≡ get_or text i 0) {t : Bool} (e : t ≡ plain_digit q b) (is_plain : t ≡ true) where
  plain_here : plain_digit q b ≡ true
  plain_here = sym e ∙ is_plain

  here : plain_digit q (get_or text i 0) ≡ true
  here = ap (plain_digit q) (sym is_byte_lem) ∙ plain_here

  reads : Some ((get_or text i 0), (i + 1)) ≡ char_at (Value q) text i
  unfolding char_at
  reads =
      let a = get_or text i 0 in
      let low = plain_from q a here in
      decode_plain text i q inside (plain_other q a here) (λ e. omega arith) (λ e. omega arith) refl (high_no_blank a (omega arith))

  module _ {d : ℕ} (is : d ≡ b - 48) where
    as_read : d ≡ get_or text i 0 - 48
    as_read = is ∙ ap (λ x. x - 48) is_byte_lem

    pub digit_fits : n * 10 + d < 2 ^ 64
    digit_fits = running_room go left reads refl (plain_from q (get_or text i 0) here) (plain_to q (get_or text i 0) here) as_read

    pub digit_on : Running (Value q) text most before at (n * 10 + d) (k + 1) (i + 1)
    digit_on = running_on go left reads refl (plain_from q (get_or text i 0) here) (plain_to q (get_or text i 0) here) as_read

-- a source that is a value
pub in_value_lem : {source : Source} {q : ℕ} → source ≡ Value q → {text : List ℕ} {most before at n k i : ℕ}
    → Running (Value q) text most before at n k i → Running source text most before at n k i
in_value_lem e go = rw e go

pub ruleset first_running = (running_start, in_value_lem, rules)

pub ruleset plain_running = (running_start, running_times, digit_least, digit_fits, digit_on, rules)
