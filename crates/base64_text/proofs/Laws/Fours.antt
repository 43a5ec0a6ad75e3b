-- Keys written as bytes, in either order, read back; and through Base64.
use Rattle.std.specs.Prelude.{◌≡◌, refl, List, [], ◌∷◌, ◌++◌, true, ℕ, ◌+◌, ◌*◌, ◌-◌, ◌/◌, ◌%◌, ◌<◌, ℤ, pos, negsuc}
use Rattle.std.proofs.Common.{ap, ◌∙◌, arith, lt-ltb, le-ltb}
use Rattle.lists.specs.Lists.{all, each_in}
use Rattle.lists.proofs.Laws.Booleans.{and_halves}
use Rattle.numbers.specs.Numbers.{in_keys}
use Rattle.numbers.proofs.Laws.Keys.{above_in, below_in_lem}
use Rattle.base64_text.specs.Base64.{encode}
use Rattle.base64_text.specs.Fours.{Endian, big, little, in_endian, bits32, twos, keys_in, bytes_or, coded_keys}
use Rattle.base64_text.specs.Fours.{bits_of_key, four_bytes, bytes_of_key, key_bytes}
use Rattle.base64_text.proofs.Laws.Base64.{Bytes, none, more, written_found}

-- the 32 bits of a key, and the key of them
bits_small : (z : ℤ) → in_keys z ≡ true → bits_of_key z < 4294967296
unfolding bits_of_key
bits_small (pos n) h = let b = above_in n h in omega arith
bits_small (negsuc n) h = omega arith

bits_back : (z : ℤ) → in_keys z ≡ true → twos (bits_of_key z) ≡ z
unfolding bits_of_key twos
bits_back (pos n) h = let b = above_in n h in rw (lt-ltb n 2147483648 (omega arith)) refl
bits_back (negsuc n) h =
    let b = below_in_lem n h in
    let s : 4294967295 - (4294967295 - n) ≡ n = omega arith in
    rw (le-ltb (4294967295 - n) 2147483648 (omega arith), s) refl

-- four bytes, and the 32 bits of them
pub whole_back : (n : ℕ) → bits32 (n / 16777216) (n / 65536 % 256) (n / 256 % 256) (n % 256) ≡ n
unfolding bits32
whole_back n = digits_back n (n / 256) (n / 65536) (n / 16777216) (omega arith) (omega arith) (omega arith)
  where
    digits_back : (n a b c : ℕ) → n ≡ a * 256 + n % 256 → a ≡ b * 256 + a % 256 → b ≡ c * 256 + b % 256
        → c * 16777216 + b % 256 * 65536 + a % 256 * 256 + n % 256 ≡ n
    digits_back n a b c e f g = omega arith

one_back : (e : Endian) (z : ℤ) (l : List ℕ) → in_keys z ≡ true → keys_in e (bytes_of_key e z ++ l) ≡ z ∷ keys_in e l
unfolding keys_in bytes_of_key in_endian four_bytes
one_back big z l h = ap (λ k. k ∷ keys_in big l) (ap twos (whole_back (bits_of_key z)) ∙ bits_back z h)
one_back little z l h = ap (λ k. k ∷ keys_in little l) (ap twos (whole_back (bits_of_key z)) ∙ bits_back z h)

-- The bytes of keys read back, in the order in which they were written.
pub fours_back : (e : Endian) (l : List ℤ) → all in_keys l ≡ true → keys_in e (key_bytes e l) ≡ l
unfolding keys_in key_bytes each_in all
fours_back e [] h = refl
fours_back e (z ∷ l) h =
    let (k, m) = and_halves (in_keys z) (all in_keys l) h in
    one_back e z (each_in (bytes_of_key e) l) k ∙ ap (λ x. z ∷ x) (fours_back e l m)

before : (e : Endian) (n : ℕ) {l : List ℕ} → n < 4294967296 → Bytes l
    → Bytes (in_endian e four_bytes (n / 16777216) (n / 65536 % 256) (n / 256 % 256) (n % 256) ++ l)
unfolding in_endian four_bytes
before e n {l = l} h t =
    let p : n / 16777216 < 256 = omega arith in
    let q : n / 65536 % 256 < 256 = omega arith in
    let r : n / 256 % 256 < 256 = omega arith in
    let s : n % 256 < 256 = omega arith in
    by e p q r s
  where
    by : (e : Endian) {a b c d : ℕ} → a < 256 → b < 256 → c < 256 → d < 256 → Bytes (in_endian e four_bytes a b c d ++ l)
    by big p q r s = more p (more q (more r (more s t)))
    by little p q r s = more s (more r (more q (more p t)))

key_bytes_lem : (e : Endian) (l : List ℤ) → all in_keys l ≡ true → Bytes (key_bytes e l)
unfolding key_bytes each_in all bytes_of_key
key_bytes_lem e [] h = none
key_bytes_lem e (z ∷ l) h =
    let (k, m) = and_halves (in_keys z) (all in_keys l) h in
    before e (bits_of_key z) (bits_small z k) (key_bytes_lem e l m)

-- Keys written in Base64 read back.
pub keys_back : (e : Endian) (l : List ℤ) → all in_keys l ≡ true → coded_keys e (encode (key_bytes e l)) ≡ l
unfolding coded_keys bytes_or
keys_back e l h = rw (written_found (key_bytes e l) (key_bytes_lem e l h)) (fours_back e l h)
