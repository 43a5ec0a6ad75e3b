-- The letters of bytes are these bytes.
use mathlib.Core.Path.{◌≡◌, refl, ap₂}
use Rattle.std.specs.Prelude.{List, [], ◌∷◌, true, false, get_or}
use Rattle.std.proofs.lemmas.Bool.{false≢true}
use Rattle.std.proofs.Common.{arith, le-leb, ne_eqb}
use Prim.Native.Nat.{ℕ, suc, ◌<◌, Ordering, compare}
use Prim.Native.Char.{code}
use Rattle.std.proofs.Math.Dec.{compare_is_eq, is_le}
use Rattle.grammar.specs.Bytes.{ascii}
use Rattle.schema.specs.Letters.{by_order, character, lettered}

code_order : (n : ℕ) (o : Ordering) (e : compare n 55296 ≡ o) → is_le o ≡ true → compare_is_eq o ≡ false → code (by_order n o e) ≡ n
unfolding by_order
code_order n Ordering.lt e h k = refl
code_order n Ordering.eq e h k = absurd (false≢true (mathlib.Core.Path.sym k))
code_order n Ordering.gt e h k = absurd (false≢true h)

code_character : (n : ℕ) → n < 256 → code (character n) ≡ n
unfolding character
code_character n h = code_order n (compare n 55296) refl (le-leb n 55296 (omega arith)) (ne_eqb n 55296 (λ e. omega arith))

-- THE LAW: the letters of bytes are these bytes
pub lettered_bytes : (w : List ℕ) → ((i : ℕ) → get_or w i 0 < 256) → ascii (lettered w) ≡ w
unfolding lettered
lettered_bytes [] h = refl
lettered_bytes (a ∷ w) h = ap₂ (λ x y. x ∷ y) (code_character a (h 0)) (lettered_bytes w (λ i. h (suc i)))
