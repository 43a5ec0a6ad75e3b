-- A SIEVE: numbers marked by their low bits. A number that is not marked stands nowhere among them.
use Rattle.std.specs.Prelude.{◌≡◌, Bool, true, ◌||◌, List, ℕ, ◌%◌, eqb, ltb, length}
use Rattle.marks.specs.Marks.{marked}
use Rattle.lists.specs.Reordered.{member}
use Rattle.known_keys.specs.Order.{in_order}

unfoldable pub sieve_place : ℕ → ℕ
sieve_place c = c % 524288

-- the number is marked; without 8,192 words every number passes
unfoldable pub sifted : List ℕ → ℕ → Bool
sifted words c = ltb (length words) 8192 || eqb (marked words (sieve_place c)) 1

-- every number of the list passes
pub record Sieve (codes words : List ℕ) : Type 0 where
  pub passing : (c : ℕ) → member c codes ≡ true → sifted words c ≡ true

-- numbers in order, and a sieve that they pass
pub record Sifting (codes words : List ℕ) : Type 0 where
  pub in_order_so : in_order codes ≡ true
  pub passes : Sieve codes words
