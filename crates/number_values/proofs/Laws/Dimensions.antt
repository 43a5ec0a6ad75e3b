-- A digit and a comma that stand plain in a value are one part of its list.
use Rattle.std.specs.Char.{is_ascii_digit}
use Rattle.std.specs.Prelude.{◌≡◌, List, [], ◌∷◌, Bool, true, ℕ, ◌+◌, ◌-◌, ◌≤◌, ◌<◌, eqb, leb, ltb, length, get_or}
use Rattle.std.proofs.Math.Path.{refl}
use Rattle.std.proofs.Common.{sym, ap, ◌∙◌, arith, rules}
use borrow.Author.Tests.{eqb-true, ne_eqb, leb-true, ltb-true, le-leb}
use Rattle.lists.specs.Lists.{all}
use Rattle.lists.proofs.Laws.Booleans.{and_left, and_right}
use Rattle.grammar.proofs.Laws.Tokens.{high_no_blank}
use Rattle.nodes.proofs.Laws.Values.{decode_plain}
use Rattle.numbers.specs.Numbers.{digit, digits, number, value, parts, on_first, comma}
use Rattle.numbers.specs.Stream.{char_at, stream}
use Rattle.numbers.specs.Parted.{numeral, Parted, part_comma}
use Rattle.numbers.proofs.Laws.Stream.{Moves, char_byte}
use Rattle.numbers.specs.declared.Source.TheVariants.{Value}
use Rattle.numbers.specs.declared.Part.TheVariants.{Comma}

pub plain : (q : ℕ) (text : List ℕ) (i : ℕ) → i < length text → 38 < get_or text i 0 → (get_or text i 0 ≡ q → ⊥)
    → Moves (Value q) text i (get_or text i 0) (i + 1)
unfolding char_at
plain q text i h a n = char_byte (Value q) text i
    (decode_plain text i q h n (λ e. omega arith) (λ e. omega arith) refl (high_no_blank (get_or text i 0) (omega arith))) refl

one_digit : (d : ℕ) → value (d ∷ []) ≡ d - 48
unfolding value number
one_digit d = omega arith

module _ (q d c : ℕ) (is_comma : c ≡ 44) (h : is_ascii_digit d ≡ true) where
  from_zero : leb 48 d ≡ true
  from_zero = and_left (leb 48 d) _ h

  to_nine : leb d 57 ≡ true
  to_nine = and_right (leb 48 d) _ h

  pub digit_from : 48 ≤ d
  digit_from = leb-true 48 d from_zero

  pub digit_to : d ≤ 57
  digit_to = leb-true d 57 to_nine

  one_part : (w : List ℕ) → parts comma (d ∷ c ∷ w) ≡ (d ∷ []) ∷ parts comma w
  unfolding parts on_first comma
  one_part w = let k = digit_from in rw (ne_eqb d 44 (λ e. omega arith), is_comma) refl

  in_form_lem : numeral 1 0 9 (d ∷ []) ≡ true
  unfolding numeral digits all digit
  in_form_lem =
      let v = one_digit d in
      let m = digit_to in
      rw (from_zero, to_nine, le-leb 0 (value (d ∷ [])) (omega arith), le-leb (value (d ∷ [])) 9 (omega arith)) refl

pub digit_comma : (q : ℕ) (text : List ℕ) (at : ℕ) → 2 ≤ length text - at
    → q < 44 → get_or text (at + 1) 0 ≡ 44 → {t : Bool} → t ≡ is_ascii_digit (get_or text at 0) → t ≡ true
    → {v : ℕ} → v ≡ get_or text at 0 - 48 → Parted (Value q) text 1 0 9 at (Comma v (at + 2))
digit_comma q text at l a z {t} et y {v} e =
    let d = get_or text at 0 in
    let c = get_or text (at + 1) 0 in
    let h : is_ascii_digit d ≡ true = sym et ∙ y in
    let f = digit_from q d c z h in
    let first = plain q text at (omega arith) (omega arith) (λ i. omega arith) in
    let second = plain q text (at + 1) (omega arith) (omega arith) (λ i. omega arith) in
    let j : at + 2 ≡ at + 1 + 1 = omega arith in
    let v₁ : v ≡ value (d ∷ []) = e ∙ sym (one_digit d) in
    rw (v₁, j) (part_comma (d ∷ []) (in_form_lem q d c z h)
    (ap (parts comma) (first.splits ∙ ap (λ w. d ∷ w) second.splits) ∙ one_part q d c z h (stream (Value q) text (at + 1 + 1)))
    (omega (arith, first.ahead, second.ahead)))

pub ruleset dimension = (digit_from, digit_comma, rules)
