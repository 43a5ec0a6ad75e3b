-- THE FIELDS OF A FILE: a number in so many bytes, in one order or the other, in two's complement. Assumes nothing.
use Rattle.std.specs.Prelude.{List, reverse, Bool, false, cond, ℕ, ◌+◌, ◌-◌, ◌*◌, ◌^◌, eqb, leb, ltb, ℤ, pos, negsuc, take, drop}
use Rattle.records.specs.Bytes.{bytes_of, number_written}
use Rattle.nifti.specs.declared.Order.{Order}
use Rattle.nifti.specs.declared.Order.TheVariants.{MostFirst, LeastFirst}

-- bytes that have the most significant first, in an order; and back
unfoldable pub ordered : Order → List ℕ → List ℕ
ordered MostFirst s = s
ordered LeastFirst s = reverse s

-- a number in w bytes
unfoldable pub field : Order → (w n : ℕ) → List ℕ
field o w n = ordered o (bytes_of w n)

-- the number in the w bytes at a place
unfoldable pub number_at : Order → (w at : ℕ) → List ℕ → ℕ
number_at o w at s = number_written (ordered o (take w (drop at s)))

-- ---- Two's complement in w bytes: a number whose first bit is set is itself less 2^(8w).

unfoldable pub signed : (w n : ℕ) → ℤ
signed w n = cond (ltb n (2 ^ (8 * w - 1))) (pos n) (negsuc (2 ^ (8 * w) - (n + 1)))

unfoldable pub field_is : ℕ → ℤ → Bool
field_is b (pos n) = eqb n b
field_is b (negsuc n) = false

unfoldable pub field_at_least : ℕ → ℤ → Bool
field_at_least b (pos n) = leb b n
field_at_least b (negsuc n) = false

-- a number that is not negative
unfoldable pub natural : ℤ → ℕ
natural (pos n) = n
natural (negsuc n) = 0

unfoldable pub field_words : Unit {0}
unfolding ordered field number_at signed field_is field_at_least natural
field_words = tt
