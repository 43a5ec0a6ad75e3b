-- A number that stands alone, and one with a sign: of digits and limits that the caller says. Exponents and keys are such numbers.
use Rattle.std.specs.Prelude.{◌≡◌, refl, List, [], ◌∷◌, Bool, true, false, cond, ℕ, zero, suc, ◌+◌, ◌^◌, ◌≤◌, ◌<◌, eqb, leb, ℤ, length, get_or, Option, Some, None}
use Rattle.std.proofs.Common.{sym, ap, ◌∙◌, arith, SFits, to_z, of_z, rules, ne_eqb, le-leb, leb-true}
use Rattle.std.proofs.lemmas.Option.{same_Some}
use Rattle.std.specs.Int.{w32, w64}
use Rattle.std.proofs.lemmas.Int.{to_z-of_z}
use Rattle.lists.proofs.Laws.Booleans.{and_right, clash}
use Rattle.grammar.specs.Look.{Word}
use Rattle.lists.specs.Lists.{all}
use Rattle.nodes.specs.Values.{value_there}
use Rattle.numbers.specs.Numbers.{digits, value, Sign, plus, minus, unsigned, with_sign, whole, exponent, exponent_value, key, key_value}
use Rattle.numbers.proofs.Laws.Cuts.{powers}
use Rattle.numbers.specs.Stream.{char_at, stream}
use Rattle.numbers.proofs.Laws.Stream.{char_byte, char_end}
use Rattle.numbers.specs.Parted.{numeral, alone_in, signed_from, limit_of, signed_in, Parted}
use Rattle.numbers.proofs.Laws.Forms.{numeral_below}
use Rattle.numbers.specs.Answers.{whole_in, exponent_in, key_in, key_limit, sign_if}
use Rattle.numbers.proofs.Laws.Keys.{within, key_fits}
use Rattle.numbers.proofs.Laws.Values.{there, past, says_comma, says_last, says_no, whole_last, whole_comma, whole_no}
use Rattle.numbers.specs.declared.Source.{Source}
use Rattle.numbers.specs.declared.Source.TheVariants.{Value}
use Rattle.numbers.specs.declared.Part.{Part}
use Rattle.numbers.specs.declared.Part.TheVariants.{Comma, Last, No}

-- ALONE
module _ {source : Source} {text : List ℕ} {most lo hi at : ℕ} {r : Part} (p : Parted source text most lo hi at r) where
  pub alone_is : {n : ℕ} → r ≡ Last n → Some n ≡ alone_in most lo hi (stream source text at)
  unfolding alone_in
  alone_is e = let k = whole_last (says_last p e) in sym (rw (k.0, k.1) refl)

  pub alone_comma : {n j : ℕ} → r ≡ Comma n j → None ≡ alone_in most lo hi (stream source text at)
  unfolding alone_in
  alone_comma e = sym (rw (whole_comma (says_comma p e)) refl)

  pub alone_no : r ≡ No → None ≡ alone_in most lo hi (stream source text at)
  unfolding alone_in
  alone_no e = sym (rw (whole_no (says_no p e)) refl)

pub ruleset standing_alone = (alone_is, alone_comma, alone_no, rules)

-- a whole number
pub whole_alone : (text : List ℕ) (at lo hi : ℕ) {q : ℕ} → q ≡ get_or text at 0 → {r : Option ℕ}
    → r ≡ alone_in 7 lo hi (stream (Value q) text (at + 1)) → r ≡ whole_in lo hi (value_there text at)
unfolding alone_in whole_in whole numeral
whole_alone text at lo hi e k = rw (there text at) (rw e at k)

-- what is told of a word
module _ (most lo hi : ℕ) (w : Word) {r : Option ℕ} (e : r ≡ alone_in most lo hi w) {n : ℕ} (f : r ≡ Some n) where
  pub alone_right : (numeral most lo hi w ≡ true) × (value w ≡ n)
  unfolding alone_in
  alone_right = go (numeral most lo hi w) refl
    where
      go : (b : Bool) → numeral most lo hi w ≡ b → (numeral most lo hi w ≡ true) × (value w ≡ n)
      go true h = let q : Some (value w) ≡ Some n = sym (rw h refl) ∙ sym e ∙ f in (h, cc)
      go false h = let q : None ≡ Some n = sym (rw h refl) ∙ sym e ∙ f in clash (cc)

  pub alone_small : most ≤ 15 → n < 10 ^ 15
  alone_small l =
      let a = alone_right in
      let p : 10 ^ most ≤ 10 ^ 15 = powers most 15 l in
      omega (arith, numeral_below most lo hi w a.0, a.1)

pub alone_wrong : (most lo hi : ℕ) (w : Word) {r : Option ℕ} → r ≡ alone_in most lo hi w → r ≡ None → numeral most lo hi w ≡ false
unfolding alone_in
alone_wrong most lo hi w {r} e f = go (numeral most lo hi w) refl
  where
    go : (b : Bool) → numeral most lo hi w ≡ b → numeral most lo hi w ≡ false
    go true h = let q : Some (value w) ≡ None = sym (rw h refl) ∙ sym e ∙ f in clash (cc)
    go false h = h

-- WITH A SIGN
module _ (most hi : ℕ) (s : Sign) (w : Word) {r : Option ℕ} (e : r ≡ alone_in most 0 hi w) where
  from_none : r ≡ None → None ≡ signed_from most hi s w
  unfolding signed_from
  from_none f = sym (rw (alone_wrong most 0 hi w e f) refl)

  from_some : {n : ℕ} → r ≡ Some n → {v : ℤ} → v ≡ with_sign s n → Some v ≡ signed_from most hi s w
  unfolding signed_from
  from_some f q = let a = alone_right most 0 hi w e f in sym (rw (a.0, a.1, q) refl)

after_minus : (most p m : ℕ) (u : Word) → signed_in most p m (45 ∷ u) ≡ signed_from most m (sign_if true) u
unfolding signed_in unsigned limit_of sign_if
after_minus most p m u = refl

no_sign : (most p m b : ℕ) (u : Word) → eqb b 45 ≡ false → signed_in most p m (b ∷ u) ≡ signed_from most p (sign_if false) (b ∷ u)
unfolding signed_in unsigned limit_of sign_if
no_sign most p m b u h = rw h refl

nothing : (most p m : ℕ) → signed_in most p m [] ≡ None
unfolding signed_in signed_from unsigned numeral digits all
nothing most p m = refl

module _ (text : List ℕ) (at most p m : ℕ) where
  abbrev answer : Option ℤ
  answer = signed_in most p m (value_there text at)

  pub signed_past : length text ≤ at → None ≡ answer
  signed_past h = sym (ap (signed_in most p m) (past text at h) ∙ nothing most p m)

  module _ {q : ℕ} (quoted : q ≡ get_or text at 0) {c : Option (ℕ × ℕ)} (ec : c ≡ char_at (Value q) text (at + 1)) where
    begins : value_there text at ≡ stream (Value q) text (at + 1)
    begins = there text at ∙ ap (λ z. stream (Value z) text (at + 1)) (sym quoted)

    pub signed_end : c ≡ None → None ≡ answer
    signed_end e = sym (ap (signed_in most p m) (begins ∙ char_end (Value q) text (at + 1) ec e) ∙ nothing most p m)

    module _ {b j : ℕ} (e : c ≡ Some (b, j)) where
      reads : stream (Value q) text (at + 1) ≡ b ∷ stream (Value q) text j
      reads = (char_byte (Value q) text (at + 1) ec e).splits

      module _ (h : b ≡ 45) {r : Option ℕ} (er : r ≡ alone_in most 0 m (stream (Value q) text j)) where
        minus_is : answer ≡ signed_from most m (sign_if true) (stream (Value q) text j)
        minus_is = ap (signed_in most p m) (begins ∙ rw h at reads) ∙ after_minus most p m (stream (Value q) text j)

        pub minus_none : r ≡ None → None ≡ answer
        minus_none f = from_none most m (sign_if true) (stream (Value q) text j) er f ∙ sym minus_is

        pub minus_some : {n : ℕ} → r ≡ Some n → {v : ℤ} → v ≡ with_sign (sign_if true) n → Some v ≡ answer
        minus_some f k = from_some most m (sign_if true) (stream (Value q) text j) er f k ∙ sym minus_is

      module _ (h : b ≡ 45 → ⊥) {r : Option ℕ} (er : r ≡ alone_in most 0 p (stream (Value q) text (at + 1))) where
        plus_is : answer ≡ signed_from most p (sign_if false) (stream (Value q) text (at + 1))
        plus_is = ap (signed_in most p m) (begins ∙ reads)
            ∙ (no_sign most p m b (stream (Value q) text j) (ne_eqb b 45 h) ∙ ap (signed_from most p (sign_if false)) (sym reads))

        pub plus_none : r ≡ None → None ≡ answer
        plus_none f = from_none most p (sign_if false) (stream (Value q) text (at + 1)) er f ∙ sym plus_is

        pub plus_some : {n : ℕ} → r ≡ Some n → {v : ℤ} → v ≡ with_sign (sign_if false) n → Some v ≡ answer
        plus_some f k = from_some most p (sign_if false) (stream (Value q) text (at + 1)) er f k ∙ sym plus_is

-- EXPONENTS
one_limit : (n : ℕ) (s : Sign) → limit_of n n s ≡ n
unfolding limit_of
one_limit n plus = refl
one_limit n minus = refl

pub exponent_signed : (most : ℕ) (w : Word) → signed_in 2 most most w ≡ exponent_in most w
unfolding exponent_in exponent exponent_value signed_in signed_from numeral
exponent_signed most w =
    let u = unsigned false w in
    rw (one_limit most u.sign, le-leb 0 (value u.rest) (omega arith)) refl

-- KEYS
key_limits : (s : Sign) → limit_of 2147483647 2147483648 s ≡ key_limit s
unfolding limit_of key_limit
key_limits plus = refl
key_limits minus = refl

key_told : (w : Word) → signed_in 10 2147483647 2147483648 w ≡ key_in w
unfolding key_in key key_value signed_in signed_from numeral
key_told w =
    let u = unsigned false w in
    rw (key_limits u.sign, within u.sign (value u.rest)) refl

-- a number of a limit, told of a word, fits a key
wide_fits : (s : Sign) (n : ℕ) → n ≤ key_limit s → SFits w64 (with_sign s n)
unfolding with_sign key_limit
wide_fits plus n h = record { sfits = omega arith }
wide_fits minus zero h = record { sfits = omega arith }
wide_fits minus (suc n) h = record { sfits = omega arith }

limited_fits : (hi : ℕ) (s : Sign) (w : Word) → hi ≡ key_limit s → {r : Option ℤ} → r ≡ signed_from 10 hi s w → {z : ℤ} → r ≡ Some z
    → SFits w32 z × SFits w64 z
unfolding signed_from numeral
limited_fits hi s w l {r} e {z} f = go (numeral 10 0 hi w) refl
  where
    go : (b : Bool) → numeral 10 0 hi w ≡ b → SFits w32 z × SFits w64 z
    go true h =
        let q : Some (with_sign s (value w)) ≡ Some z = sym (rw h refl) ∙ sym e ∙ f in
        let z₁ : with_sign s (value w) ≡ z = same_Some _ _ q in
        let k = leb-true (value w) hi (and_right (leb 0 (value w)) _ (and_right (digits 1 10 w) _ h)) in
        rw (sym z₁) (key_fits s (value w) (rw l at k), wide_fits s (value w) (rw l at k))
    go false h = let q : None ≡ Some z = sym (rw h refl) ∙ sym e ∙ f in clash (cc)

module _ (w : Word) {p m : ℕ} (ep : p ≡ key_limit (sign_if false)) (em : m ≡ key_limit (sign_if true)) {r : Option ℤ}
    (e : r ≡ signed_in 10 p m w) where
  limits : r ≡ signed_in 10 2147483647 2147483648 w
  unfolding key_limit sign_if
  limits = rw (ep, em) at e

  pub key_signed : r ≡ key_in w
  key_signed = limits ∙ key_told w

  module _ {z : ℤ} (f : r ≡ Some z) where
    both : SFits w32 z × SFits w64 z
    unfolding signed_in
    both = let u = unsigned false w in limited_fits (limit_of 2147483647 2147483648 u.sign) u.sign u.rest (key_limits u.sign) limits f

    pub signed_key_fits : SFits w32 (to_z w64 (of_z w64 z))
    signed_key_fits = rw (to_z-of_z w64 z both.1) both.0

    pub signed_key : Some (to_z w32 (of_z w32 (to_z w64 (of_z w64 z)))) ≡ key_in w
    signed_key = ap Some (to_z-of_z w32 (to_z w64 (of_z w64 z)) signed_key_fits ∙ to_z-of_z w64 z both.1) ∙ sym f ∙ key_signed
