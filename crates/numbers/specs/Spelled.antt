-- Decimals, as a reader meets them: a sign, digits, a point, digits, a mark, a sign, digits, and the end of the word.
use Rattle.std.specs.Prelude.{◌≡◌, List, ◌∷◌, ◌++◌, Bool, true, false, ◌&&◌, ℕ, ◌≤◌, ℤ, pos, ◌-ℤ◌, length, Option, Some, None}
use Rattle.grammar.specs.Bytes.{blank}
use Rattle.grammar.specs.Document.{together}
use Rattle.grammar.specs.Look.{Word}
use Rattle.lists.specs.Lists.{all}
use Rattle.numbers.specs.Numbers.{digit, digits, value, parts, point, power_mark, Sign, unsigned, with_sign, mantissa, places}
use Rattle.numbers.specs.Numbers.{in_power, scaled, scaled_value, decimal, decimal_value}
use Rattle.numbers.specs.Cuts.{Uncut}
use Rattle.numbers.specs.Stream.{stream, word_ends}
use Rattle.numbers.specs.Answers.{sign_if}
use Rattle.numbers.specs.declared.Source.{Source}
use Rattle.numbers.specs.declared.Lead.{Lead}
use Rattle.numbers.specs.declared.Decimal.{Decimal}

-- What is found from a place on, of words that are right by a test and have a value: one that is right, and the place behind it, or a
-- word that is not.
pub data Reading (source : Source) (text : List ℕ) (at : ℕ) (right : Word → Bool) (valued : Word → Decimal) : Option (Decimal × ℕ) → Type 0 where
  reads : (x : Word) {j : ℕ} {d : Decimal} → right x ≡ true → d ≡ valued x → Uncut blank x → stream source text at ≡ x
      ++ stream source text j → word_ends (stream source text j) ≡ true → Reading source text at right valued (Some (d, j))
  fails : (x y : Word) → right x ≡ false → Uncut blank x → stream source text at ≡ x ++ y → word_ends y ≡ true
      → Reading source text at right valued None

-- a decimal
pub record Spelled (source : Source) (text : List ℕ) (at : ℕ) (r : Option (Decimal × ℕ)) : Type 0 where
  pub reading : Reading source text at decimal decimal_value r

-- without its sign
unfoldable pub pure_decimal : Word → Bool
pure_decimal x = scaled (parts power_mark x)

unfoldable pub pure_value : Sign → Word → Decimal
pure_value s x = scaled_value s (parts power_mark x)

pub record Pure (source : Source) (text : List ℕ) (at : ℕ) (s : Sign) (r : Option (Decimal × ℕ)) : Type 0 where
  pub reading : Reading source text at pure_decimal (pure_value s) r

-- behind the point, where `count` digits stand in front of it, which write `before`
unfoldable pub pointed : Word → Word → Word
pointed u x = u ++ (46 ∷ x)

pub record DigitsInFront (u : Word) (before count : ℕ) : Type 0 where
  pub all_digits : all digit u ≡ true
  pub some : 1 ≤ length u
  pub counted : length u ≡ count
  pub valued : value u ≡ before

pub record Pointed (source : Source) (text : List ℕ) (at before count : ℕ) (s : Sign) (r : Option (Decimal × ℕ)) : Type 0 where
  pub reading : {u : Word} → DigitsInFront u before count
      → Reading source text at (λ x. pure_decimal (pointed u x)) (λ x. pure_value s (pointed u x)) r

-- behind a mantissa that goes on no further
pub record Mantissa (source : Source) (text : List ℕ) (at : ℕ) (s : Sign) (a : ℤ) (n : ℕ) (m : Word) : Type 0 where
  pub right : mantissa m ≡ true
  pub amounts : with_sign s (value (together (parts point m))) ≡ a
  pub placed : places m ≡ n
  pub stopped : (b : ℕ) (x : Word) → stream source text at ≡ b ∷ x → power_mark b ≡ false → (y : Word) → mantissa (m ++ (b ∷ y)) ≡ false

pub record Powered (source : Source) (text : List ℕ) (at : ℕ) (a : ℤ) (n : ℕ) (r : Option (Decimal × ℕ)) : Type 0 where
  pub reading : {s : Sign} {m : Word} → Mantissa source text at s a n m
      → Reading source text at (λ y. pure_decimal (m ++ y)) (λ y. pure_value s (m ++ y)) r

-- the digits of a power, behind its sign
unfoldable pub power_digits : Sign → ℕ → Word → Bool
power_digits s n x = digits 1 2 x && in_power 45 (with_sign s (value x) -ℤ pos n)

unfoldable pub power_value : Sign → ℤ → ℕ → Word → Decimal
power_value s a n x = record { amount = a; power = with_sign s (value x) -ℤ pos n }

pub record Raised (source : Source) (text : List ℕ) (at : ℕ) (s : Sign) (a : ℤ) (n : ℕ) (r : Option (Decimal × ℕ)) : Type 0 where
  pub reading : Reading source text at (power_digits s n) (power_value s a n) r

-- A sign in front, if there is one, and the place behind it: what is ahead of that is the rest.
pub record SignLeads (source : Source) (text : List ℕ) (at : ℕ) (r : Lead) : Type 0 where
  pub front : Word
  pub no_blank : Uncut blank front
  pub no_mark : Uncut power_mark front
  pub splits : stream source text at ≡ front ++ stream source text r.next
  pub signs : (x y : Word) → stream source text r.next ≡ x ++ y
      → unsigned true (front ++ x) ≡ record { sign = sign_if r.negative; rest = x }

-- A word is cut off at the first blank.
pub record Cut (w : Word) : Type 0 where
  pub front : Word
  pub rest : Word
  pub splits : w ≡ front ++ rest
  pub uncut : Uncut blank front
  pub ends : word_ends rest ≡ true
