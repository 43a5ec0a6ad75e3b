-- The turns of the test of a colour.
use Rattle.std.specs.Prelude.{◌≡◌, List, [], ◌∷◌, Bool, ◌&&◌, ◌||◌, ℕ, ◌+◌, ◌-◌, ◌≤◌, eqb, ltb, length, get_or, Option, Some, None}
use Rattle.std.proofs.Math.Path.{refl, sym}
use Rattle.std.proofs.Common.{ap, ◌∙◌, arith, SFits, to_z, of_z, rules, eqb-true, ltb-true}
use Rattle.std.proofs.Math.Bool.{true, false}
use mir.Syntax.{w64}
use mir.ValLaws.{to_z-of_z}
use Rattle.lists.specs.Lists.{lists}
use Rattle.lists.proofs.Laws.Booleans.{clash, and_left, and_right, or_elim}
use Rattle.grammar.specs.Look.{Word}
use Rattle.nodes.specs.Values.{value_there}
use Rattle.nodes.proofs.Laws.Values.{decode_quote}
use Rattle.numbers.specs.Numbers.{numbers, decimal, decimal_value, colour}
use Rattle.numbers.specs.Stream.{char_at, stream}
use Rattle.numbers.specs.Answers.{decimal_in, shade}
use Rattle.numbers.proofs.Laws.Colours.{colour_is}
use Rattle.numbers.proofs.Laws.Stream.{char_end}
use Rattle.numbers.proofs.Laws.Values.{there}
use Rattle.number_values.proofs.Laws.Dimensions.{plain}
use Rattle.numbers.specs.declared.Decimal.{Decimal}
use Rattle.numbers.specs.declared.Source.TheVariants.{Value}
use Rattle.keys.specs.Colours.{AtSight}

module _ (w : Word) {r : Option Decimal} (e : r ≡ decimal_in w) where
  pub colour_none : r ≡ None → false ≡ colour w
  unfolding decimal_in
  colour_none f = go (decimal w) refl
    where
      go : (b : Bool) → decimal w ≡ b → false ≡ colour w
      go true h = let q : Some (decimal_value w) ≡ None = sym (rw h refl) ∙ sym e ∙ f in clash (cc)
      go false h = sym (colour_is w ∙ rw h refl)

  pub colour_some : {d : Decimal} → r ≡ Some d → SFits w64 d.amount → SFits w64 d.power → {t : Bool}
      → t ≡ shade (to_z w64 (of_z w64 d.amount)) (to_z w64 (of_z w64 d.power)) → t ≡ colour w
  unfolding decimal_in
  colour_some {d} f u v {t} k = go (decimal w) refl
    where
      go : (b : Bool) → decimal w ≡ b → t ≡ colour w
      go true h =
          let q : Some (decimal_value w) ≡ Some d = sym (rw h refl) ∙ sym e ∙ f in
          let s : decimal_value w ≡ d = cc in
          k ∙ rw (to_z-of_z w64 d.amount u, to_z-of_z w64 d.power v, ← s) (sym (colour_is w ∙ rw h refl))
      go false h = let q : None ≡ Some d = sym (rw h refl) ∙ sym e ∙ f in clash (cc)

pub ruleset colouring = (colour_none, colour_some, rules)

-- 0 or 1 between two quotes
zero_or_one : (d : ℕ) → (eqb d 48 || eqb d 49) ≡ true → colour (d ∷ []) ≡ true
unfolding numbers lists
zero_or_one d h =
    or_elim (colour (d ∷ []) ≡ true) (eqb d 48) (eqb d 49) h (λ e. rw (eqb-true d 48 e) refl) (λ e. rw (eqb-true d 49 e) refl)

ended : (q : ℕ) (text : List ℕ) (i : ℕ) → 1 ≤ length text - i → get_or text i 0 ≡ q → stream (Value q) text i ≡ []
unfolding char_at
ended q text i l e = char_end (Value q) text i (decode_quote text i q (omega arith) e) refl

pub one_digit : (text : List ℕ) (at : ℕ) → 3 ≤ length text - at
    → ((ltb (get_or text at 0) 48 && eqb (get_or text (at + 2) 0) (get_or text at 0))
    && (eqb (get_or text (at + 1) 0) 48 || eqb (get_or text (at + 1) 0) 49)) ≡ true → colour (value_there text at) ≡ true
one_digit text at l h =
    let q = get_or text at 0 in
    let d = get_or text (at + 1) 0 in
    let front = and_left (ltb q 48 && eqb (get_or text (at + 2) 0) q) _ h in
    let is_digit = and_right (ltb q 48 && eqb (get_or text (at + 2) 0) q) _ h in
    let low = ltb-true q 48 (and_left (ltb q 48) _ front) in
    let high : 48 ≤ d = or_elim (48 ≤ d) (eqb d 48) (eqb d 49) is_digit (λ e. let k = eqb-true d 48 e in omega arith)
    (λ e. let k = eqb-true d 49 e in omega arith) in
    let quote = eqb-true (get_or text (at + 2) 0) q (and_right (ltb q 48) _ front) in
    let j : at + 2 ≡ at + 1 + 1 = omega arith in
    let digit = (plain q text (at + 1) (omega arith) (omega arith) (λ i. omega arith)).splits in
    let none = ended q text (at + 2) (omega arith) quote in
    let is : value_there text at ≡ d ∷ [] = there text at ∙ digit ∙ ap (λ w. d ∷ w) (rw (← j) none) in
    rw is (zero_or_one d is_digit)

pub not_seen : (text : List ℕ) (at : ℕ) → AtSight text at false
not_seen text at = record { coloured = λ e. clash (cc) }

pub seen : (text : List ℕ) (at : ℕ) → 3 ≤ length text - at → {b : Bool}
    → b ≡ ((ltb (get_or text at 0) 48 && eqb (get_or text (at + 2) 0) (get_or text at 0))
    && (eqb (get_or text (at + 1) 0) 48 || eqb (get_or text (at + 1) 0) 49)) → AtSight text at b
seen text at l e = record { coloured = λ t. one_digit text at l (sym e ∙ t) }

pub ruleset sighting = (not_seen, seen, rules)

pub colour_seen : {text : List ℕ} {at : ℕ} {b : Bool} → AtSight text at b → b ≡ true → true ≡ colour (value_there text at)
colour_seen s t = sym (s.coloured t)
