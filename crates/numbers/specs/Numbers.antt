-- NUMBERS, by form and by value. A form is a test; a value is read off whatever stands there, and means something where the form is right.
use Rattle.std.specs.Prelude.{List, [], ◌∷◌, Bool, true, false, ◌&&◌, ◌||◌, cond, ℕ, suc, ◌+◌, ◌*◌, ◌-◌, ◌^◌, eqb, leb, ℤ, pos, negsuc, neg_ℤ, nat_abs, ◌-ℤ◌, ◌*ℤ◌, length, drop}
use Rattle.std.specs.Int.Signed.{le_z}
use Rattle.grammar.specs.Bytes.{between, blank}
use Rattle.grammar.specs.Document.{together}
use Rattle.lists.specs.Lists.{all, those, each}
use Rattle.grammar.specs.Look.{Word}
use Rattle.numbers.specs.declared.Decimal.{Decimal}

-- a digit
unfoldable pub digit : ℕ → Bool
digit a = between 48 57 a

-- so many digits, from `lo` to `hi` of them
unfoldable pub digits : ℕ → ℕ → Word → Bool
digits lo hi w = all digit w && between lo hi (length w)

-- the number that digits write, behind those that write `n`
unfoldable pub number : ℕ → Word → ℕ
number n [] = n
number n (a ∷ w) = number (n * 10 + (a - 48)) w

unfoldable pub value : Word → ℕ
value w = number 0 w

-- a word cut at every byte that passes: one part more than there are cuts
unfoldable pub on_first : ℕ → List Word → List Word
on_first a [] = (a ∷ []) ∷ []
on_first a (w ∷ l) = (a ∷ w) ∷ l

unfoldable pub parts : (ℕ → Bool) → Word → List Word
parts p [] = [] ∷ []
parts p (a ∷ w) = cond (p a) ([] ∷ parts p w) (on_first a (parts p w))

unfoldable pub comma : ℕ → Bool
comma a = eqb a 44

unfoldable pub point : ℕ → Bool
point a = eqb a 46

-- Lists in text are parted by blanks, which may also lead and trail.
unfoldable pub filled : Word → Bool
filled [] = false
filled (a ∷ w) = true

unfoldable pub words : Word → List Word
words w = those filled (parts blank w)

-- Whole numbers are 1 to 7 digits, no sign; here with limits.
unfoldable pub whole : ℕ → ℕ → Word → Bool
whole lo hi w = digits 1 7 w && between lo hi (value w)

-- Three whole numbers with commas, no blanks, each from 1 to a limit of its own.
unfoldable pub three : (Word → Bool) → (Word → Bool) → (Word → Bool) → List Word → Bool
three p q r [] = false
three p q r (a ∷ []) = false
three p q r (a ∷ b ∷ []) = false
three p q r (a ∷ b ∷ c ∷ []) = p a && (q b && r c)
three p q r (a ∷ b ∷ c ∷ d ∷ l) = false

unfoldable pub volume_dimensions : (most₁ most₂ most₃ : ℕ) → Word → Bool
volume_dimensions m n k w = three (whole 1 m) (whole 1 n) (whole 1 k) (parts comma w)

-- Dimension lists: one or more single digits with commas, no blanks.
unfoldable pub dimension_list : Word → Bool
dimension_list w = all (digits 1 1) (parts comma w)

-- numbers with commas between them
unfoldable pub comma_values : Word → List ℕ
comma_values w = each value (parts comma w)

-- A sign in front, if there is one of those that may be.
pub data Sign : Type 0 where
  plus minus : Sign

pub record Signed : Type 0 where
  pub sign : Sign
  pub rest : Word

unfoldable pub unsigned : (mayPlus : Bool) → Word → Signed
unsigned m [] = record { sign = plus; rest = [] }
unsigned m (a ∷ w) = cond (eqb a 45) (record { sign = minus; rest = w })
    (cond (m && eqb a 43) (record { sign = plus; rest = w }) (record { sign = plus; rest = a ∷ w }))

unfoldable pub with_sign : Sign → ℕ → ℤ
with_sign plus n = pos n
with_sign minus n = neg_ℤ (pos n)

-- Exponents: optional `-`, 1 or 2 digits, from -most to most.
unfoldable pub exponent : (most : ℕ) → Word → Bool
exponent most w = let u = (unsigned false w).rest in digits 1 2 u && leb (value u) most

unfoldable pub exponent_value : Word → ℤ
exponent_value w = let u = unsigned false w in with_sign u.sign (value u.rest)

-- Keys of labels: optional `-`, 1 to 10 digits, leading zeros count; from -2,147,483,648 to 2,147,483,647. Compared by value: `5` and `05`
-- are one key, and so are `0` and `-0`.
unfoldable pub key_value : Word → ℤ
key_value w = let u = unsigned false w in with_sign u.sign (value u.rest)

unfoldable pub in_keys : ℤ → Bool
in_keys z = le_z (with_sign minus 2147483648) z && le_z z (with_sign plus 2147483647)

unfoldable pub key : Word → Bool
key w = digits 1 10 (unsigned false w).rest && in_keys (key_value w)

-- Keys parted by blanks, and what they write.
unfoldable pub key_list : Word → Bool
key_list w = all key (words w)

unfoldable pub listed_keys : Word → List ℤ
listed_keys w = each key_value (words w)

unfoldable pub same_key : ℤ → ℤ → Bool
same_key (pos m) (pos n) = eqb m n
same_key (pos m) (negsuc n) = false
same_key (negsuc m) (pos n) = false
same_key (negsuc m) (negsuc n) = eqb m n

-- Decimals: optional `+` or `-`; 1 to 15 digits, at most one point with a digit on each side; then optionally `e` or `E`, an optional
-- sign, one or two digits. Read as a whole number and one power of ten: the digits without the point, and the written power less the
-- places. Nothing is shortened: `7.2E-1` is 72 with power -2, `2.0` is 20 with power -1.
unfoldable pub power_mark : ℕ → Bool
power_mark a = eqb a 69 || eqb a 101

unfoldable pub decimal_parts : List Word → Bool
decimal_parts [] = false
decimal_parts (a ∷ []) = digits 1 15 a
decimal_parts (a ∷ b ∷ []) = digits 1 15 a && (digits 1 15 b && leb (length a + length b) 15)
decimal_parts (a ∷ b ∷ c ∷ l) = false

unfoldable pub mantissa : Word → Bool
mantissa m = decimal_parts (parts point m)

unfoldable pub places : Word → ℕ
places m = length (together (drop 1 (parts point m)))

-- what stands behind the mantissa: no power, which is 0, or one
unfoldable pub power_parts : List Word → Bool
power_parts [] = true
power_parts (x ∷ []) = digits 1 2 (unsigned true x).rest
power_parts (x ∷ y ∷ l) = false

unfoldable pub written_power : List Word → ℤ
written_power [] = pos 0
written_power (x ∷ l) = let u = unsigned true x in with_sign u.sign (value u.rest)

unfoldable pub power : Word → List Word → ℤ
power m l = written_power l -ℤ pos (places m)

-- from -most to most
unfoldable pub in_power : (most : ℕ) → ℤ → Bool
in_power most z = leb (nat_abs z) most

-- where there is none
abbrev pub no_decimal : Decimal
no_decimal = record { amount = pos 0; power = pos 0 }

-- a mantissa and what stands behind it
unfoldable pub scaled : List Word → Bool
scaled [] = false
scaled (m ∷ l) = mantissa m && (power_parts l && in_power 45 (power m l))

unfoldable pub scaled_value : Sign → List Word → Decimal
scaled_value s [] = no_decimal
scaled_value s (m ∷ l) = record { amount = with_sign s (value (together (parts point m))); power = power m l }

unfoldable pub decimal : Word → Bool
decimal w = scaled (parts power_mark (unsigned true w).rest)

unfoldable pub decimal_value : Word → Decimal
decimal_value w = let u = unsigned true w in scaled_value u.sign (parts power_mark u.rest)

-- A decimal beside the whole number n, in value: both are brought to one power of ten, 0 or the decimal's where that is less.
unfoldable pub up : ℤ → ℕ
up (pos k) = k
up (negsuc k) = 0

unfoldable pub down : ℤ → ℕ
down (pos k) = 0
down (negsuc k) = suc k

unfoldable pub in_value : (ℕ → ℤ → Bool) → ℕ → Decimal → Bool
in_value test n d = test (n * 10 ^ down d.power) (d.amount *ℤ pos (10 ^ up d.power))

unfoldable pub is_whole : ℕ → ℤ → Bool
is_whole n (pos m) = eqb m n
is_whole n (negsuc m) = false

unfoldable pub no_more : ℕ → ℤ → Bool
no_more n (pos m) = leb m n
no_more n (negsuc m) = true

unfoldable pub no_less : ℕ → ℤ → Bool
no_less n (pos m) = leb n m
no_less n (negsuc m) = false

unfoldable pub equal_to : ℕ → Word → Bool
equal_to n w = in_value is_whole n (decimal_value w)

unfoldable pub at_most : ℕ → Word → Bool
at_most n w = in_value no_more n (decimal_value w)

unfoldable pub at_least : ℕ → Word → Bool
at_least n w = in_value no_less n (decimal_value w)

-- Colours: a decimal, in value from 0 to 1.
unfoldable pub colour : Word → Bool
colour w = decimal w && (at_least 0 w && at_most 1 w)

-- Whole numbers up to n, parted by blanks.
unfoldable pub wholes : ℕ → Word → Bool
wholes n w = all (whole 0 n) (words w)

unfoldable pub values : Word → List ℕ
values w = each value (words w)

-- The transformation has sixteen decimals, the last row equal in value to 0 0 0 1.
unfoldable pub last_row : List Word → Bool
last_row [] = false
last_row (a ∷ []) = false
last_row (a ∷ b ∷ []) = false
last_row (a ∷ b ∷ c ∷ []) = false
last_row (a ∷ b ∷ c ∷ d ∷ []) = equal_to 0 a && (equal_to 0 b && (equal_to 0 c && equal_to 1 d))
last_row (a ∷ b ∷ c ∷ d ∷ e ∷ l) = false

unfoldable pub sixteen : Word → Bool
sixteen w = let l = words w in all decimal l && last_row (drop 12 l)

unfoldable pub numbers : Unit {0}
unfolding blank digit digits number value on_first parts comma point filled words whole three volume_dimensions dimension_list comma_values
    unsigned with_sign exponent exponent_value key_value in_keys key key_list listed_keys same_key power_mark decimal_parts mantissa places
    power_parts written_power power in_power scaled scaled_value decimal decimal_value up down in_value is_whole no_more no_less equal_to at_most
    at_least colour wholes values last_row sixteen
numbers = tt
