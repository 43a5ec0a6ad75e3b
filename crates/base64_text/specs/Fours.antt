-- KEYS OF FOUR BYTES: the bytes four by four, in one order or the other, as numbers with a sign in two's complement. A rest of fewer than
-- four bytes is left out.
use Rattle.std.specs.Prelude.{List, [], ◌∷◌, cond, ℕ, ◌+◌, ◌*◌, ◌-◌, ◌/◌, ◌%◌, ltb, ℤ, pos, negsuc, length, Option, Some, None}
use Rattle.lists.specs.Lists.{each_in}
use Rattle.grammar.specs.Look.{Word}
use Rattle.base64_text.specs.Base64.{bytes_in}

-- the byte that stands first is the greatest, or the least
pub data Endian : Type 0 where
  big little : Endian

unfoldable pub in_endian : {A : Type 0} → Endian → (ℕ → ℕ → ℕ → ℕ → A) → (a b c d : ℕ) → A
in_endian big f a b c d = f a b c d
in_endian little f a b c d = f d c b a

-- 32 bits of four bytes, the greatest first
unfoldable pub bits32 : (a b c d : ℕ) → ℕ
bits32 a b c d = a * 16777216 + b * 65536 + c * 256 + d

-- two's complement: the number, and less 4,294,967,296 where the first bit is set
unfoldable pub twos : ℕ → ℤ
twos n = cond (ltb n 2147483648) (pos n) (negsuc (4294967295 - n))

unfoldable pub keys_in : Endian → List ℕ → List ℤ
keys_in e [] = []
keys_in e (a ∷ []) = []
keys_in e (a ∷ b ∷ []) = []
keys_in e (a ∷ b ∷ c ∷ []) = []
keys_in e (a ∷ b ∷ c ∷ d ∷ l) = twos (in_endian e bits32 a b c d) ∷ keys_in e l

-- ---- In a text: the bytes, none where it is no Base64; the keys; how many bytes.

unfoldable pub bytes_or : Option (List ℕ) → List ℕ
bytes_or None = []
bytes_or (Some l) = l

unfoldable pub coded_keys : Endian → Word → List ℤ
coded_keys e w = keys_in e (bytes_or (bytes_in w))

unfoldable pub coded_bytes : Word → ℕ
coded_bytes w = length (bytes_or (bytes_in w))

-- ---- How keys are written as bytes.

-- the 32 bits of a key
unfoldable pub bits_of_key : ℤ → ℕ
bits_of_key (pos n) = n
bits_of_key (negsuc n) = 4294967295 - n

unfoldable pub four_bytes : (a b c d : ℕ) → List ℕ
four_bytes a b c d = a ∷ b ∷ c ∷ d ∷ []

unfoldable pub bytes_of_key : Endian → ℤ → List ℕ
bytes_of_key e z = let n = bits_of_key z in in_endian e four_bytes (n / 16777216) (n / 65536 % 256) (n / 256 % 256) (n % 256)

unfoldable pub key_bytes : Endian → List ℤ → List ℕ
key_bytes e l = each_in (bytes_of_key e) l

unfoldable pub fours : Unit {0}
unfolding in_endian bits32 twos keys_in bytes_or coded_keys coded_bytes bits_of_key four_bytes bytes_of_key key_bytes
fours = tt
