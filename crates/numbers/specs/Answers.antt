-- What the readers answer: the number where the form is right, and that there is none where it is not.
use Rattle.std.specs.Prelude.{List, [], ◌∷◌, Bool, true, false, ◌&&◌, cond, ℕ, ◌+◌, leb, ℤ, length, get_or, Option, Some, None}
use Rattle.grammar.specs.Bytes.{blank, between}
use Rattle.grammar.specs.Look.{Word}
use Rattle.lists.specs.Lists.{count}
use Rattle.nodes.specs.Texts.{says_at}
use Rattle.numbers.specs.Numbers.{digits, value, whole, words, Sign, plus, minus, with_sign, dimension_list, comma_values}
use Rattle.numbers.specs.Numbers.{volume_dimensions, exponent, exponent_value, in_power, decimal, decimal_value, up, down}
use Rattle.numbers.specs.Numbers.{key, key_value, in_keys, in_value, no_less, no_more}
use Rattle.numbers.specs.Stream.{behind, leading}
use Rattle.numbers.specs.declared.Source.TheVariants.{Contents}
use Rattle.numbers.specs.declared.Lengths.{Lengths}
use Rattle.numbers.specs.declared.Decimal.{Decimal}
use Rattle.numbers.specs.declared.Next.{Next}
use Rattle.numbers.specs.declared.Next.TheVariants.{Number, End, Bad}

-- a whole number from lo to hi
unfoldable pub whole_in : (lo hi : ℕ) → Word → Option ℕ
whole_in lo hi w = cond (whole lo hi w) (Some (value w)) None

-- a dimension list: how many it lists; how many of them from lo to hi; the n-th of them, from 0
unfoldable pub listed_in : Word → Option ℕ
listed_in w = cond (dimension_list w) (Some (length (comma_values w))) None

unfoldable pub between_in : (lo hi : ℕ) → Word → Option ℕ
between_in lo hi w = cond (dimension_list w) (Some (count (between lo hi) (comma_values w))) None

-- three lengths
unfoldable pub lengths_of : List ℕ → Lengths
lengths_of l = record { i = get_or l 0 0; j = get_or l 1 0; k = get_or l 2 0 }

unfoldable pub three_in : (most₁ most₂ most₃ : ℕ) → Word → Option Lengths
three_in m n k w = cond (volume_dimensions m n k w) (Some (lengths_of (comma_values w))) None

-- an exponent
unfoldable pub exponent_in : (most : ℕ) → Word → Option ℤ
exponent_in most w = cond (exponent most w) (Some (exponent_value w)) None

unfoldable pub exponent_from : (most : ℕ) → Sign → Word → Option ℤ
exponent_from most s w = cond (digits 1 2 w && leb (value w) most) (Some (with_sign s (value w))) None

-- a key
unfoldable pub key_in : Word → Option ℤ
key_in w = cond (key w) (Some (key_value w)) None

unfoldable pub key_from : Sign → Word → Option ℤ
key_from s w = cond (digits 1 10 w && in_keys (with_sign s (value w))) (Some (with_sign s (value w))) None

-- the greatest number behind a sign
unfoldable pub key_limit : Sign → ℕ
key_limit plus = 2147483647
key_limit minus = 2147483648

-- a decimal
unfoldable pub decimal_in : Word → Option Decimal
decimal_in w = cond (decimal w) (Some (decimal_value w)) None

-- an amount with a power of ten, in value from 0 to 1
unfoldable pub shade : (amount power : ℤ) → Bool
shade a p = let d : Decimal = record { amount = a; power = p } in in_value no_less 0 d && in_value no_more 1 d

-- a power of ten, within its limit
unfoldable pub power_in : ℤ → Option ℤ
power_in z = cond (in_power 45 z) (Some z) None

-- a power from -18 to 0, without its sign: beyond, 10 to it or its opposite is no number of 64 bits with a sign
unfoldable pub places_in : ℤ → Option ℕ
places_in z = cond (leb (up z) 0 && leb (down z) 18) (Some (down z)) None

-- The next of a list of whole numbers, from a place in the text on: the first word that is ahead, and the place behind it.
unfoldable pub next_in_words : (ℕ → ℕ) → List Word → Next
next_in_words place [] = End
next_in_words place (w ∷ l) = cond (digits 1 7 w) (Number (value w) (place (length w))) Bad

unfoldable pub next_number : List ℕ → ℕ → Next
next_number text i = let w = says_at text i in next_in_words (λ n. behind Contents text (leading blank w + n) i) (words w)

-- the sign that a program keeps as a test
unfoldable pub sign_if : Bool → Sign
sign_if true = minus
sign_if false = plus
