-- Keys: one and the same by value; the sign, then the digits.
use Rattle.std.specs.Prelude.{◌≡◌, refl, List, [], ◌∷◌, true, false, cond, ℕ, zero, suc, ◌+◌, ◌^◌, ◌≤◌, ◌<◌, eqb, leb, ℤ, pos, negsuc, length, get_or, Option, Some, None}
use Rattle.std.proofs.Common.{sym, ap, ◌∙◌, arith, SFits, rules, eqb-true, eq-eqb, ne_eqb, le-leb, leb-true}
use Rattle.std.proofs.lemmas.Bool.{false≢true}
use Rattle.std.proofs.Math.Bool.{and-true}
use Rattle.std.proofs.Math.Dec.{leb-suc-suc}
use Rattle.std.specs.Int.Signed.{le_z}
use Rattle.std.specs.Int.{w32}
use Rattle.lists.proofs.Laws.Booleans.{and_left, and_right}
use Rattle.grammar.specs.Bytes.{between}
use Rattle.grammar.specs.Look.{Word}
use Rattle.lists.specs.Lists.{all}
use Rattle.nodes.specs.Values.{value_there}
use Rattle.numbers.specs.Numbers.{digits, value, Sign, plus, minus, unsigned, with_sign, key_value, in_keys, key, same_key}
use Rattle.numbers.specs.Stream.{char_at, stream}
use Rattle.numbers.proofs.Laws.Stream.{char_byte, char_end}
use Rattle.numbers.specs.Parted.{numeral, Parted}
use Rattle.numbers.proofs.Laws.Forms.{numeral_below}
use Rattle.numbers.specs.Answers.{key_from, key_in, key_limit, sign_if}
use Rattle.numbers.proofs.Laws.Values.{there, past, says_comma, says_last, says_no, whole_last, whole_comma, whole_no}
use Rattle.numbers.specs.declared.Source.{Source}
use Rattle.numbers.specs.declared.Source.TheVariants.{Value}
use Rattle.numbers.specs.declared.Part.{Part}
use Rattle.numbers.specs.declared.Part.TheVariants.{Comma, Last, No}

-- ONE KEY BY VALUE
pub same_key_lem : (a b : ℤ) → same_key a b ≡ true → a ≡ b
unfolding same_key
same_key_lem (pos m) (pos n) h = ap pos (eqb-true m n h)
same_key_lem (pos m) (negsuc n) h = absurd (false≢true h)
same_key_lem (negsuc m) (pos n) h = absurd (false≢true h)
same_key_lem (negsuc m) (negsuc n) h = ap negsuc (eqb-true m n h)

pub key_same_self : (a : ℤ) → same_key a a ≡ true
unfolding same_key
key_same_self (pos m) = eq-eqb m m refl
key_same_self (negsuc m) = eq-eqb m m refl

pub key_same : {a b : ℤ} → a ≡ b → same_key a b ≡ true
key_same {a} {b} e = ap (λ z. same_key a z) (sym e) ∙ key_same_self a

-- IN THE RANGE
pub above_in : (n : ℕ) → in_keys (pos n) ≡ true → n ≤ 2147483647
unfolding in_keys with_sign
above_in n h = leb-true n 2147483647 (and_right (le_z (negsuc 2147483647) (pos n)) (leb n 2147483647) h)

pub below_in_lem : (n : ℕ) → in_keys (negsuc n) ≡ true → n ≤ 2147483647
unfolding in_keys with_sign
below_in_lem n h = leb-true n 2147483647 (and_left (leb n 2147483647) (le_z (negsuc n) (pos 2147483647)) h)

-- THE DIGITS: a number up to the limit of its sign
pub within : (s : Sign) (n : ℕ) → in_keys (with_sign s n) ≡ between 0 (key_limit s) n
unfolding in_keys with_sign key_limit
within plus n = rw (le-leb 0 n (omega arith)) refl
within minus zero = refl
within minus (suc n) = rw (le-leb 0 (suc n) (omega arith), leb-suc-suc n 2147483647) (and-true (leb n 2147483647))

as_numeral : (s : Sign) (w : Word) → key_from s w ≡ cond (numeral 10 0 (key_limit s) w) (Some (with_sign s (value w))) None
unfolding key_from numeral
as_numeral s w = rw (within s (value w)) refl

module _ {source : Source} {text : List ℕ} {at : ℕ} (s : Sign) {r : Part} (p : Parted source text 10 0 (key_limit s) at r) where
  pub key_is : {n : ℕ} {v : ℤ} → r ≡ Last n → v ≡ with_sign s n → Some v ≡ key_from s (stream source text at)
  key_is e q = let k = whole_last (says_last p e) in sym (as_numeral s (stream source text at) ∙ rw (k.0, k.1, q) refl)

  pub key_comma : {n j : ℕ} → r ≡ Comma n j → None ≡ key_from s (stream source text at)
  key_comma e = sym (as_numeral s (stream source text at) ∙ rw (whole_comma (says_comma p e)) refl)

  pub key_no : r ≡ No → None ≡ key_from s (stream source text at)
  key_no e = sym (as_numeral s (stream source text at) ∙ rw (whole_no (says_no p e)) refl)

  pub key_small : {n : ℕ} → r ≡ Last n → n < 10 ^ 15
  key_small e = let h = says_last p e in omega (arith, numeral_below 10 0 (key_limit s) h.word h.right, h.valued)

  pub key_size : {n : ℕ} → r ≡ Last n → n ≤ key_limit s
  unfolding numeral
  key_size {n} e =
      let h = says_last p e in
      let k = and_right (leb 0 (value h.word)) _ (and_right (digits 1 10 h.word) _ h.right) in
      rw h.valued at (leb-true (value h.word) (key_limit s) k)

pub key_fits : (s : Sign) (n : ℕ) → n ≤ key_limit s → SFits w32 (with_sign s n)
unfolding with_sign key_limit
key_fits plus n h = record { sfits = omega arith }
key_fits minus zero h = record { sfits = omega arith }
key_fits minus (suc n) h = record { sfits = omega arith }

pub ruleset key_digits = (key_small, key_size, key_is, key_comma, key_no, rules)

-- THE SIGN
after_minus : (u : Word) → key_in (45 ∷ u) ≡ key_from (sign_if true) u
unfolding key_in key key_value key_from unsigned sign_if
after_minus u = refl

no_sign : (b : ℕ) (u : Word) → eqb b 45 ≡ false → key_in (b ∷ u) ≡ key_from (sign_if false) (b ∷ u)
unfolding key_in key key_value key_from unsigned sign_if
no_sign b u h = rw h refl

none : key_in [] ≡ None
unfolding key_in key unsigned digits all
none = refl

module _ (text : List ℕ) (at : ℕ) where
  pub key_past : length text ≤ at → None ≡ key_in (value_there text at)
  key_past h = sym (ap key_in (past text at h) ∙ none)

  module _ {c : Option (ℕ × ℕ)} (ec : c ≡ char_at (Value (get_or text at 0)) text (at + 1)) where
    pub key_end : c ≡ None → None ≡ key_in (value_there text at)
    key_end e = sym (ap key_in (there text at ∙ char_end (Value (get_or text at 0)) text (at + 1) ec e) ∙ none)

    module _ {b j : ℕ} (e : c ≡ Some (b, j)) where
      reads : value_there text at ≡ b ∷ stream (Value (get_or text at 0)) text j
      reads = there text at ∙ (char_byte (Value (get_or text at 0)) text (at + 1) ec e).splits

      pub key_minus : b ≡ 45 → {r : Option ℤ} → r ≡ key_from (sign_if true) (stream (Value (get_or text at 0)) text j)
          → r ≡ key_in (value_there text at)
      key_minus h q = q ∙ sym (ap key_in (rw h at reads) ∙ after_minus (stream (Value (get_or text at 0)) text j))

      pub key_plain : (b ≡ 45 → ⊥) → {r : Option ℤ} → r ≡ key_from (sign_if false) (stream (Value (get_or text at 0)) text (at + 1))
          → r ≡ key_in (value_there text at)
      key_plain h q =
          let m = (char_byte (Value (get_or text at 0)) text (at + 1) ec e).splits in
          q ∙ ap (key_from (sign_if false)) m ∙ sym (ap key_in reads ∙ no_sign b (stream (Value (get_or text at 0)) text j) (ne_eqb b 45 h))

pub ruleset key_signs = (key_past, key_end, key_minus, key_plain, rules)
