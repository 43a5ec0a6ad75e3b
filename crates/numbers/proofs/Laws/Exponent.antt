-- Exponents: the sign, then the digits.
use Rattle.std.specs.Prelude.{◌≡◌, refl, List, [], ◌∷◌, true, false, cond, ℕ, ◌+◌, ◌^◌, ◌≤◌, ◌<◌, eqb, ℤ, length, get_or, Option, Some, None}
use Rattle.std.proofs.Common.{sym, ap, ◌∙◌, arith, rules, ne_eqb, le-leb}
use Rattle.grammar.specs.Look.{Word}
use Rattle.lists.specs.Lists.{all}
use Rattle.nodes.specs.Values.{value_there}
use Rattle.numbers.specs.Numbers.{digits, value, Sign, unsigned, with_sign, exponent, exponent_value}
use Rattle.numbers.specs.Stream.{char_at, stream}
use Rattle.numbers.proofs.Laws.Stream.{char_byte, char_end}
use Rattle.numbers.specs.Parted.{numeral, Parted}
use Rattle.numbers.proofs.Laws.Forms.{numeral_below}
use Rattle.numbers.specs.Answers.{exponent_from, exponent_in, sign_if}
use Rattle.numbers.proofs.Laws.Values.{there, past, says_comma, says_last, says_no, whole_last, whole_comma, whole_no}
use Rattle.numbers.specs.declared.Source.{Source}
use Rattle.numbers.specs.declared.Source.TheVariants.{Value}
use Rattle.numbers.specs.declared.Part.{Part}
use Rattle.numbers.specs.declared.Part.TheVariants.{Comma, Last, No}

as_numeral : (most : ℕ) (s : Sign) (w : Word)
    → exponent_from most s w ≡ cond (numeral 2 0 most w) (Some (with_sign s (value w))) None
unfolding exponent_from numeral
as_numeral most s w = rw (le-leb 0 (value w) (omega arith)) refl

module _ {source : Source} {text : List ℕ} {most at : ℕ} (s : Sign) {r : Part} (p : Parted source text 2 0 most at r) where
  pub exponent_is : {n : ℕ} {v : ℤ} → r ≡ Last n → v ≡ with_sign s n → Some v ≡ exponent_from most s (stream source text at)
  exponent_is e q = let k = whole_last (says_last p e) in sym (as_numeral most s (stream source text at) ∙ rw (k.0, k.1, q) refl)

  pub exponent_comma : {n j : ℕ} → r ≡ Comma n j → None ≡ exponent_from most s (stream source text at)
  exponent_comma e = sym (as_numeral most s (stream source text at) ∙ rw (whole_comma (says_comma p e)) refl)

  pub exponent_no : r ≡ No → None ≡ exponent_from most s (stream source text at)
  exponent_no e = sym (as_numeral most s (stream source text at) ∙ rw (whole_no (says_no p e)) refl)

pub exponent_small : {source : Source} {text : List ℕ} {most at : ℕ} {r : Part} → Parted source text 2 0 most at r → {n : ℕ} → r ≡ Last n
    → n < 10 ^ 15
exponent_small {most = most} p {n} e = let h = says_last p e in omega (arith, numeral_below 2 0 most h.word h.right, h.valued)

pub ruleset exponent_digits = (exponent_small, exponent_is, exponent_comma, exponent_no, rules)

-- the sign
after_minus : (most : ℕ) (u : Word) → exponent_in most (45 ∷ u) ≡ exponent_from most (sign_if true) u
unfolding exponent_in exponent exponent_value exponent_from unsigned sign_if
after_minus most u = refl

no_sign : (most b : ℕ) (u : Word) → eqb b 45 ≡ false → exponent_in most (b ∷ u) ≡ exponent_from most (sign_if false) (b ∷ u)
unfolding exponent_in exponent exponent_value exponent_from unsigned sign_if
no_sign most b u h = rw h refl

none : (most : ℕ) → exponent_in most [] ≡ None
unfolding exponent_in exponent unsigned digits all
none most = refl

module _ (text : List ℕ) (at most : ℕ) where
  pub exponent_past : length text ≤ at → None ≡ exponent_in most (value_there text at)
  exponent_past h = sym (ap (exponent_in most) (past text at h) ∙ none most)

  module _ {c : Option (ℕ × ℕ)} (ec : c ≡ char_at (Value (get_or text at 0)) text (at + 1)) where
    pub exponent_end : c ≡ None → None ≡ exponent_in most (value_there text at)
    exponent_end e = sym (ap (exponent_in most) (there text at ∙ char_end (Value (get_or text at 0)) text (at + 1) ec e) ∙ none most)

    module _ {b j : ℕ} (e : c ≡ Some (b, j)) where
      reads : value_there text at ≡ b ∷ stream (Value (get_or text at 0)) text j
      reads = there text at ∙ (char_byte (Value (get_or text at 0)) text (at + 1) ec e).splits

      pub exponent_minus : b ≡ 45 → {r : Option ℤ} → r ≡ exponent_from most (sign_if true) (stream (Value (get_or text at 0)) text j)
          → r ≡ exponent_in most (value_there text at)
      exponent_minus h q = q ∙ sym (ap (exponent_in most) (rw h at reads) ∙ after_minus most (stream (Value (get_or text at 0)) text j))

      pub exponent_plain : (b ≡ 45 → ⊥) → {r : Option ℤ}
          → r ≡ exponent_from most (sign_if false) (stream (Value (get_or text at 0)) text (at + 1)) → r ≡ exponent_in most (value_there text at)
      exponent_plain h q =
          let m = (char_byte (Value (get_or text at 0)) text (at + 1) ec e).splits in
          q ∙ ap (exponent_from most (sign_if false)) m
          ∙ sym (ap (exponent_in most) reads ∙ no_sign most b (stream (Value (get_or text at 0)) text j) (ne_eqb b 45 h))

pub ruleset exponent_signs = (exponent_past, exponent_end, exponent_minus, exponent_plain, rules)
