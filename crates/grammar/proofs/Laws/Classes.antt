-- THE CLASSES OF BYTES, held to the paper's words: each is computed at all 256 bytes, and one law gives the rule at each of them.
use Rattle.std.specs.Prelude.{◌≡◌, refl, List, [], ◌∷◌, ◌++◌, ℕ, zero, suc, ◌<◌, Bool, true, false, ◌&&◌, ◌||◌, not, eqb, ltb}
use Rattle.std.proofs.Common.{arith, eqb-true}
use Rattle.std.proofs.lemmas.Bool.{eqb-false}
use Rattle.lists.proofs.Laws.Booleans.{and_left, and_right}
use Rattle.grammar.specs.Bytes.{ascii, blank, letter, name_start, name_byte, quote, special, skipped}
use Rattle.grammar.specs.Characters.{lead1}

-- the byte is one of the list
unfoldable pub one_of : List ℕ → ℕ → Bool
one_of [] a = false
one_of (b ∷ l) a = eqb a b || one_of l a

-- two tests say the same of every byte below `n`
unfoldable pub agree : Bool → Bool → Bool
agree true b = b
agree false b = not b

unfoldable pub same_class : (ℕ → Bool) → (ℕ → Bool) → ℕ → Bool
same_class p q zero = true
same_class p q (suc n) = agree (p n) (q n) && same_class p q n

agreed : (a b : Bool) → agree a b ≡ true → a ≡ b
unfolding agree
agreed true true e = refl
agreed true false e = cc
agreed false true e = cc
agreed false false e = refl

below : (a n : ℕ) → eqb a n ≡ false → a < suc n → a < n
below a n e h = let other = eqb-false a n e in omega arith

alike_by : (p q : ℕ → Bool) (n a : ℕ) → agree (p n) (q n) ≡ true → (a < n → p a ≡ q a) → a < suc n → (t : Bool) → eqb a n ≡ t → p a ≡ q a
alike_by p q n a e ih h true k = let same = eqb-true a n k in rw same (agreed (p n) (q n) e)
alike_by p q n a e ih h false k = ih (below a n k h)

-- THE LAW: what is computed below `n` holds of each number below `n`
pub alike_at : (p q : ℕ → Bool) (n : ℕ) → same_class p q n ≡ true → (a : ℕ) → a < n → p a ≡ q a
unfolding same_class
alike_at p q zero e a h = absurd (omega arith)
alike_at p q (suc n) e a h =
    alike_by p q n a (and_left (agree (p n) (q n)) (same_class p q n) e)
    (alike_at p q n (and_right (agree (p n) (q n)) (same_class p q n) e) a) h (eqb a n) refl

-- A blank is space, tab, line feed or carriage return.
abbrev pub blanks : List ℕ
blanks = ascii " \t\n\r"

pub blank_is : (a : ℕ) → a < 256 → blank a ≡ one_of blanks a
unfolding same_class agree one_of blank
blank_is a h = alike_at blank (one_of blanks) 256 refl a h

abbrev pub letter_bytes : List ℕ
letter_bytes = ascii "ABCDEFGHIJKLMNOPQRSTUVWXYZabcdefghijklmnopqrstuvwxyz"

abbrev pub digit_bytes : List ℕ
digit_bytes = ascii "0123456789"

pub letter_is : (a : ℕ) → a < 256 → letter a ≡ one_of letter_bytes a
unfolding same_class agree one_of letter
letter_is a h = alike_at letter (one_of letter_bytes) 256 refl a h

-- A name: ASCII letter or `_`, then letters, digits, `_ - . :`.
pub name_start_is : (a : ℕ) → a < 256 → name_start a ≡ one_of (letter_bytes ++ ascii "_") a
unfolding same_class agree one_of name_start letter
name_start_is a h = alike_at name_start (one_of (letter_bytes ++ ascii "_")) 256 refl a h

pub name_byte_is : (a : ℕ) → a < 256 → name_byte a ≡ one_of (letter_bytes ++ (digit_bytes ++ ascii "_-.:")) a
unfolding same_class agree one_of name_byte letter
name_byte_is a h = alike_at name_byte (one_of (letter_bytes ++ (digit_bytes ++ ascii "_-.:"))) 256 refl a h

-- Single quotes serve too.
pub quote_is : (a : ℕ) → a < 256 → quote a ≡ one_of (ascii "\"'") a
unfolding same_class agree one_of quote
quote_is a h = alike_at quote (one_of (ascii "\"'")) 256 refl a h

-- `<` never; `&` only in references.
pub special_is : (a : ℕ) → a < 256 → special a ≡ one_of (ascii "<&") a
unfolding same_class agree one_of special
special_is a h = alike_at special (one_of (ascii "<&")) 256 refl a h

-- A character of one byte is ASCII, but for characters below 32 other than blanks.
unfoldable pub plain_ascii : ℕ → Bool
plain_ascii a = ltb a 128 && (one_of blanks a || not (ltb a 32))

pub lead1_is : (a : ℕ) → a < 256 → lead1 a ≡ plain_ascii a
unfolding same_class agree one_of lead1 blank plain_ascii
lead1_is a h = alike_at lead1 plain_ascii 256 refl a h

-- A DOCTYPE holds no `[`, no `]` and no `<`, and `>` ends it.
pub skipped_is : (a : ℕ) → a < 256 → skipped a ≡ not (one_of (ascii "[]<>") a)
unfolding same_class agree one_of skipped
skipped_is a h = alike_at skipped (λ a. not (one_of (ascii "[]<>") a)) 256 refl a h
