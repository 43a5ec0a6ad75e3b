-- The digits of a key, with the limit of its sign as the program has it, and its value by its bits.
use Rattle.std.specs.Option.{is_some}
use Rattle.std.specs.Prelude.{◌≡◌, List, Bool, cond, ℕ, zero, suc, ◌^◌, ◌≤◌, ◌<◌, ℤ, Option, Some, None}
use Rattle.std.proofs.Math.Path.{refl, sym}
use Rattle.std.proofs.Common.{ap, ◌∙◌, SFits, to_z, of_z, rules}
use Rattle.std.proofs.Math.Bool.{true, false}
use native.Mathlib.Omega.{arith}
use Rattle.std.specs.Int.{w32, w64}
use Rattle.std.proofs.lemmas.Int.{to_z-of_z}
use Rattle.lists.proofs.Laws.Booleans.{clash}
use Rattle.grammar.specs.Look.{Word}
use Rattle.numbers.specs.Numbers.{with_sign, Sign, plus, minus, key, key_value}
use Rattle.numbers.specs.Stream.{stream}
use Rattle.numbers.specs.Parted.{Parted}
use Rattle.numbers.specs.Answers.{key_in, key_from, key_limit, sign_if}
use Rattle.numbers.proofs.Laws.Keys.{key_is, key_comma, key_no, key_small, key_size, key_fits}
use Rattle.numbers.specs.declared.Source.{Source}
use Rattle.numbers.specs.declared.Part.{Part}
use Rattle.numbers.specs.declared.Part.TheVariants.{Comma, Last, No}

wide_fits : (s : Sign) (n : ℕ) → n ≤ key_limit s → SFits w64 (with_sign s n)
unfolding with_sign key_limit
wide_fits plus n h = record { sfits = omega arith }
wide_fits minus zero h = record { sfits = omega arith }
wide_fits minus (suc n) h = record { sfits = omega arith }

-- a number up to the limit, with its sign, as a key
module _ (t : Bool) {n : ℕ} (size : n ≤ key_limit (sign_if t)) where
  pub signed_small : n < 10 ^ 15
  unfolding key_limit sign_if
  signed_small = go t size
    where
      go : (s : Bool) → n ≤ key_limit (sign_if s) → n < 10 ^ 15
      go true h = omega arith
      go false h = omega arith

  module _ {v : ℤ} (q : v ≡ with_sign (sign_if t) n) where
    back : to_z w64 (of_z w64 v) ≡ v
    back = to_z-of_z w64 v (rw q (wide_fits (sign_if t) n size))

    pub signed_fits : SFits w32 (to_z w64 (of_z w64 v))
    signed_fits = rw (back, q) (key_fits (sign_if t) n size)

    pub signed_back : to_z w32 (of_z w32 (to_z w64 (of_z w64 v))) ≡ v
    signed_back = to_z-of_z w32 (to_z w64 (of_z w64 v)) signed_fits ∙ back

module _ {source : Source} {text : List ℕ} {at : ℕ} (t : Bool) {h : ℕ} (l : h ≡ key_limit (sign_if t)) {r : Part}
    (p : Parted source text 10 0 h at r) where
  limited : Parted source text 10 0 (key_limit (sign_if t)) at r
  limited = rw l at p

  pub from_small : {n : ℕ} → r ≡ Last n → n < 10 ^ 15
  from_small e = key_small (sign_if t) limited e

  pub from_comma : {n j : ℕ} → r ≡ Comma n j → None ≡ key_from (sign_if t) (stream source text at)
  from_comma e = key_comma (sign_if t) limited e

  pub from_no : r ≡ No → None ≡ key_from (sign_if t) (stream source text at)
  from_no e = key_no (sign_if t) limited e

  module _ {n : ℕ} {v : ℤ} (e : r ≡ Last n) (q : v ≡ with_sign (sign_if t) n) where
    size : n ≤ key_limit (sign_if t)
    size = key_size (sign_if t) limited e

    pub from_fits : SFits w32 (to_z w64 (of_z w64 v))
    from_fits = signed_fits t size q

    pub from_is : Some (to_z w32 (of_z w32 (to_z w64 (of_z w64 v)))) ≡ key_from (sign_if t) (stream source text at)
    from_is = ap Some (signed_back t size q) ∙ key_is (sign_if t) limited e q

pub ruleset key_digits = (from_small, from_comma, from_no, from_fits, from_is, rules)

-- a key, told by whether there is one
pub key_is_some : (w : Word) → is_some (key_in w) ≡ key w
unfolding key_in
key_is_some w = go (key w)
  where
    go : (b : Bool) → is_some (cond b (Some (key_value w)) None) ≡ b
    go true = refl
    go false = refl

-- a key, told from none
module _ (w : Word) {r : Option ℤ} (e : r ≡ key_in w) where
  pub told_key : {k : ℤ} → r ≡ Some k → (key w ≡ true) × (k ≡ key_value w)
  unfolding key_in
  told_key {k} f = go (key w) refl
    where
      go : (b : Bool) → key w ≡ b → (key w ≡ true) × (k ≡ key_value w)
      go true h = let q : Some (key_value w) ≡ Some k = sym (rw h refl) ∙ sym e ∙ f in (h, cc)
      go false h = let q : None ≡ Some k = sym (rw h refl) ∙ sym e ∙ f in clash (cc)

  pub key_yes : {k : ℤ} → r ≡ Some k → true ≡ key w
  key_yes f = sym (told_key f).0

  pub key_none : r ≡ None → false ≡ key w
  unfolding key_in
  key_none f = go (key w) refl
    where
      go : (b : Bool) → key w ≡ b → false ≡ key w
      go true h = let q : Some (key_value w) ≡ None = sym (rw h refl) ∙ sym e ∙ f in clash (cc)
      go false h = sym h

pub ruleset key_telling = (key_yes, key_none, rules)
