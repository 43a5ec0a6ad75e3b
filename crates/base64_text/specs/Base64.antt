-- BASE64 (RFC 3548, section 3), by its encoding: `encode` says what bytes are written as. A text holds the bytes that it, its blanks left
-- out, is written for; where there are none it is no Base64. So padding, spare bits, text behind the padding and other letters need no
-- rules of their own. `bytes_in` finds the bytes; that it finds them exactly is `bytes_iff` of Laws.
use Rattle.std.specs.Prelude.{List, [], ◌∷◌, Bool, ◌&&◌, not, cond, ℕ, ◌+◌, ◌*◌, ◌-◌, ◌/◌, ◌%◌, eqb, ltb, get_or, Option, Some, None}
use Rattle.lists.specs.Lists.{those, is_some}
use Rattle.grammar.specs.Bytes.{ascii, between, blank}
use Rattle.grammar.specs.Look.{Word}

-- Table 1: the letter of a value from 0 to 63
unfoldable pub alphabet : Word
alphabet = ascii "ABCDEFGHIJKLMNOPQRSTUVWXYZabcdefghijklmnopqrstuvwxyz0123456789+/"

unfoldable pub letter_of : ℕ → ℕ
letter_of v = get_or alphabet v 0

-- 24 bits, from left to right, are three bytes, and four letters of six bits each
unfoldable pub bits_of_three : (a b c : ℕ) → ℕ
bits_of_three a b c = a * 65536 + b * 256 + c

unfoldable pub first_letter : ℕ → ℕ
first_letter n = letter_of (n / 262144)

unfoldable pub second_letter : ℕ → ℕ
second_letter n = letter_of (n / 4096 % 64)

unfoldable pub third_letter : ℕ → ℕ
third_letter n = letter_of (n / 64 % 64)

unfoldable pub fourth_letter : ℕ → ℕ
fourth_letter n = letter_of (n % 64)

-- Where fewer than 24 bits are left at the end, bits of value 0 are added on the right, and `=` stands for each letter that would hold
-- none of the bytes' bits.
unfoldable pub encode : List ℕ → Word
encode [] = []
encode (a ∷ []) = first_letter (bits_of_three a 0 0) ∷ second_letter (bits_of_three a 0 0) ∷ 61 ∷ 61 ∷ []
encode (a ∷ b ∷ []) = first_letter (bits_of_three a b 0) ∷ second_letter (bits_of_three a b 0) ∷ third_letter (bits_of_three a b 0) ∷ 61 ∷ []
encode (a ∷ b ∷ c ∷ l) = first_letter (bits_of_three a b c) ∷ second_letter (bits_of_three a b c) ∷ third_letter (bits_of_three a b c)
    ∷ fourth_letter (bits_of_three a b c) ∷ encode l

-- a word without its blanks
unfoldable pub unblanked : Word → Word
unblanked w = those (λ a. not (blank a)) w

-- ---- The bytes of a text, found.

-- the value of a letter; 65 for `=`, 64 for what is none
unfoldable pub worth : ℕ → ℕ
worth a =
    cond (between 65 90 a) (a - 65)
    (cond (between 97 122 a) (a - 71)
    (cond (between 48 57 a) (a + 4) (cond (eqb a 43) 62 (cond (eqb a 47) 63 (cond (eqb a 61) 65 64)))))

unfoldable pub is_value : ℕ → Bool
is_value v = ltb v 64

-- 24 bits of four values
unfoldable pub sixes : (p q r s : ℕ) → ℕ
sixes p q r s = p * 262144 + q * 4096 + r * 64 + s

-- the three bytes of 24 bits, and others behind them
unfoldable pub three_bytes : ℕ → List ℕ → List ℕ
three_bytes n l = (n / 65536) ∷ (n / 256 % 256) ∷ (n % 256) ∷ l

unfoldable pub three_more : ℕ → Option (List ℕ) → Option (List ℕ)
three_more n None = None
three_more n (Some l) = Some (three_bytes n l)

-- one byte or two, where the spare bits are 0
unfoldable pub one_byte : ℕ → Option (List ℕ)
one_byte n = cond (eqb (n % 65536) 0) (Some ((n / 65536) ∷ [])) None

unfoldable pub two_bytes : ℕ → Option (List ℕ)
two_bytes n = cond (eqb (n % 256) 0) (Some ((n / 65536) ∷ (n / 256 % 256) ∷ [])) None

-- four letters of which the last is `=`: nothing stands behind them
unfoldable pub four_ending : (p q r : ℕ) → Word → Option (List ℕ)
four_ending p q r [] =
    cond (is_value p && is_value q)
    (cond (eqb r 65) (one_byte (sixes p q 0 0)) (cond (is_value r) (two_bytes (sixes p q r 0)) None))
    None
four_ending p q r (a ∷ w) = None

unfoldable pub four_values : (p q r s : ℕ) → Bool
four_values p q r s = is_value p && (is_value q && (is_value r && is_value s))

unfoldable pub decode : Word → Option (List ℕ)
decode [] = Some []
decode (a ∷ []) = None
decode (a ∷ b ∷ []) = None
decode (a ∷ b ∷ c ∷ []) = None
decode (a ∷ b ∷ c ∷ d ∷ w) =
    cond (eqb (worth d) 65) (four_ending (worth a) (worth b) (worth c) w)
    (cond (four_values (worth a) (worth b) (worth c) (worth d))
    (three_more (sixes (worth a) (worth b) (worth c) (worth d)) (decode w))
    None)

unfoldable pub bytes_in : Word → Option (List ℕ)
bytes_in w = decode (unblanked w)

-- whether a text is Base64
unfoldable pub coded : Word → Bool
coded w = is_some (bytes_in w)

unfoldable pub base64 : Unit {0}
unfolding alphabet letter_of bits_of_three first_letter second_letter third_letter fourth_letter encode unblanked worth is_value sixes three_bytes
    three_more one_byte two_bytes four_ending four_values decode bytes_in coded
base64 = tt
