-- The bytes of UTF-8, held to the bits of RFC 3629, section 3: a tail is 10xxxxxx, and a first byte 110xxxxx, 1110xxxx or 11110xxx has one,
-- two or three tails behind it. What the bits leave over is told by the number of the character. Computed at all 256 bytes, and of two
-- bytes at all pairs whose first byte has the bits: of the others both sides say no. Here, and not beside the classes, since each wrong
-- grammar would compute it again.
use Rattle.std.specs.Prelude.{◌≡◌, refl, Bool, true, false, ◌&&◌, not, ℕ, ◌+◌, ◌-◌, ◌*◌, ◌<◌, ◌≤◌, ◌/◌, ◌%◌, eqb, leb}
use Rattle.std.proofs.Common.{sym, ◌∙◌, arith, eqb-true, ne_eqb, leb-true}
use Rattle.std.proofs.lemmas.Bool.{eqb-false}
use Rattle.grammar.specs.Bytes.{between}
use Rattle.grammar.specs.Characters.{continues, lead2, lead3, lead4, noncharacter}
use Rattle.grammar.proofs.Laws.Classes.{agree, same_class, alike_at}

-- 10xxxxxx
unfoldable pub tail_bits : ℕ → Bool
tail_bits a = eqb (a / 64) 2

pub continues_is : (a : ℕ) → a < 256 → continues a ≡ tail_bits a
unfolding same_class agree continues tail_bits
continues_is a h = alike_at continues tail_bits 256 refl a h

-- 110xxxxx, and a character from 128 on
unfoldable pub two_bits : ℕ → Bool
two_bits a = eqb (a / 32) 6 && leb 128 (a % 32 * 64)

pub lead2_is : (a : ℕ) → a < 256 → lead2 a ≡ two_bits a
unfolding same_class agree lead2 two_bits
lead2_is a h = alike_at lead2 two_bits 256 refl a h

-- the number of the first character that three bytes, or four, write with these two in front
unfoldable pub three_from : ℕ → ℕ → ℕ
three_from a b = a % 16 * 4096 + b % 64 * 64

unfoldable pub four_from : ℕ → ℕ → ℕ
four_from a b = a % 8 * 262144 + b % 64 * 4096

-- 1110xxxx and a tail: a character from 2,048 on that is no surrogate, U+D800 to U+DFFF
unfoldable pub three_bits : ℕ → ℕ → Bool
three_bits a b = eqb (a / 16) 14 && (tail_bits b && (leb 2048 (three_from a b) && not (between 55296 57343 (three_from a b))))

-- 11110xxx and a tail: a character from U+10000 to U+10FFFF
unfoldable pub four_bits : ℕ → ℕ → Bool
four_bits a b = eqb (a / 8) 30 && (tail_bits b && between 65536 1114111 (four_from a b))

-- a test of two bytes, the first from `low` on, as one of a number
unfoldable paired : ℕ → (ℕ → ℕ → Bool) → ℕ → Bool
paired low p n = p (low + n / 256) (n % 256)

-- what is computed of all pairs with so many first bytes from `low` on holds of each
pair_at : (low many : ℕ) (p q : ℕ → ℕ → Bool) → same_class (paired low p) (paired low q) (many * 256) ≡ true
    → (a b : ℕ) → low ≤ a → a < low + many → b < 256 → p a b ≡ q a b
unfolding paired
pair_at low many p q e a b f h g =
    let first : low + ((a - low) * 256 + b) / 256 ≡ a = omega arith in
    let second : ((a - low) * 256 + b) % 256 ≡ b = omega arith in
    let inside : (a - low) * 256 + b < many * 256 = omega arith in
    let here = alike_at (paired low p) (paired low q) (many * 256) e ((a - low) * 256 + b) inside in
    rw (first, second) at here

-- no byte outside a range lies in it
outside_by : (lo hi a : ℕ) → (lo ≤ a → a ≤ hi → ⊥) → (s t : Bool) → leb lo a ≡ s → leb a hi ≡ t → between lo hi a ≡ false
outside_by lo hi a out true true e f = absurd (out (leb-true lo a e) (leb-true a hi f))
outside_by lo hi a out true false e f = rw (e, f) refl
outside_by lo hi a out false t e f = rw e refl

outside : (lo hi a : ℕ) → (lo ≤ a → a ≤ hi → ⊥) → between lo hi a ≡ false
outside lo hi a out = outside_by lo hi a out (leb lo a) (leb a hi) refl refl

-- a character of three bytes begins with 1110xxxx, and one of four with 11110xxx
lead3_bits : (a b : ℕ) → eqb (a / 16) 14 ≡ false → lead3 a b ≡ false
unfolding lead3
lead3_bits a b e =
    let other : a / 16 ≡ 14 → ⊥ = eqb-false (a / 16) 14 e in
    let first : eqb a 224 ≡ false = ne_eqb a 224 (λ q. other (omega arith)) in
    let second : between 225 236 a ≡ false = outside 225 236 a (λ f g. other (omega arith)) in
    let third : eqb a 237 ≡ false = ne_eqb a 237 (λ q. other (omega arith)) in
    let fourth : between 238 239 a ≡ false = outside 238 239 a (λ f g. other (omega arith)) in
    rw (first, second, third, fourth) refl

lead4_bits : (a b : ℕ) → eqb (a / 8) 30 ≡ false → lead4 a b ≡ false
unfolding lead4
lead4_bits a b e =
    let other : a / 8 ≡ 30 → ⊥ = eqb-false (a / 8) 30 e in
    let first : eqb a 240 ≡ false = ne_eqb a 240 (λ q. other (omega arith)) in
    let second : between 241 243 a ≡ false = outside 241 243 a (λ f g. other (omega arith)) in
    let third : eqb a 244 ≡ false = ne_eqb a 244 (λ q. other (omega arith)) in
    rw (first, second, third) refl

three_bits_lem : (a b : ℕ) → eqb (a / 16) 14 ≡ false → three_bits a b ≡ false
unfolding three_bits
three_bits_lem a b e = rw e refl

lead3_by : (a b : ℕ) → b < 256 → (t : Bool) → eqb (a / 16) 14 ≡ t → lead3 a b ≡ three_bits a b
unfolding same_class agree paired lead3 continues three_bits tail_bits three_from
lead3_by a b g true e =
    let bits = eqb-true (a / 16) 14 e in
    pair_at 224 16 lead3 three_bits refl a b (omega arith) (omega arith) g
lead3_by a b g false e = lead3_bits a b e ∙ sym (three_bits_lem a b e)

pub lead3_is : (a b : ℕ) → a < 256 → b < 256 → lead3 a b ≡ three_bits a b
lead3_is a b h g = lead3_by a b g (eqb (a / 16) 14) refl

four_bits_lem : (a b : ℕ) → eqb (a / 8) 30 ≡ false → four_bits a b ≡ false
unfolding four_bits
four_bits_lem a b e = rw e refl

lead4_by : (a b : ℕ) → b < 256 → (t : Bool) → eqb (a / 8) 30 ≡ t → lead4 a b ≡ four_bits a b
unfolding same_class agree paired lead4 continues four_bits tail_bits four_from
lead4_by a b g true e =
    let bits = eqb-true (a / 8) 30 e in
    pair_at 240 8 lead4 four_bits refl a b (omega arith) (omega arith) g
lead4_by a b g false e = lead4_bits a b e ∙ sym (four_bits_lem a b e)

pub lead4_is : (a b : ℕ) → a < 256 → b < 256 → lead4 a b ≡ four_bits a b
lead4_is a b h g = lead4_by a b g (eqb (a / 8) 30) refl

-- U+FFFE and U+FFFF, the last two that three bytes write: the first two bytes are those of the last 64, and the tail is one of two
unfoldable pub last_front : ℕ → ℕ → Bool
last_front a b = lead3 a b && eqb (three_from a b) 65472

unfoldable pub non_front : ℕ → ℕ → Bool
non_front a b = lead3 a b && noncharacter a b 190

front_bits : (a b : ℕ) → eqb (a / 16) 14 ≡ false → non_front a b ≡ last_front a b
unfolding non_front last_front
front_bits a b e = let never = lead3_bits a b e in rw never refl

front_by : (a b : ℕ) → b < 256 → (t : Bool) → eqb (a / 16) 14 ≡ t → non_front a b ≡ last_front a b
unfolding same_class agree paired lead3 continues last_front non_front three_from noncharacter
front_by a b g true e =
    let bits = eqb-true (a / 16) 14 e in
    pair_at 224 16 non_front last_front refl a b (omega arith) (omega arith) g
front_by a b g false e = front_bits a b e

pub noncharacter_front : (a b : ℕ) → a < 256 → b < 256 → non_front a b ≡ last_front a b
noncharacter_front a b h g = front_by a b g (eqb (a / 16) 14) refl

unfoldable pub last_tail : ℕ → Bool
last_tail c = tail_bits c && leb 65534 (65472 + c % 64)

unfoldable pub non_tail : ℕ → Bool
non_tail c = continues c && noncharacter 239 191 c

pub noncharacter_tail : (c : ℕ) → c < 256 → non_tail c ≡ last_tail c
unfolding same_class agree non_tail last_tail continues tail_bits noncharacter
noncharacter_tail c h = alike_at non_tail last_tail 256 refl c h
