-- BYTES: a number in w bytes, the most significant first, and numbers one after the other. Assumes nothing.
use Rattle.std.specs.Prelude.{List, [], ◌∷◌, ◌++◌, ℕ, zero, suc, ◌<◌, length, get_or, take, drop, replicate}
use Rattle.records.specs.Fields.{bits, joined, parts_of}

-- the last w bytes of a number
unfoldable pub bytes_of : ℕ → ℕ → List ℕ
bytes_of w n = parts_of (replicate w 8) n

-- the number that bytes write
unfoldable pub number_written : List ℕ → ℕ
number_written bs = joined (replicate (length bs) 8) bs

-- numbers one after the other, w bytes each
unfoldable pub body : ℕ → List ℕ → List ℕ
body w [] = []
body w (n ∷ ns) = bytes_of w n ++ body w ns

-- the first n numbers that bytes write, w bytes each
unfoldable pub numbers_in : ℕ → ℕ → List ℕ → List ℕ
numbers_in w zero s = []
numbers_in w (suc n) s = number_written (take w s) ∷ numbers_in w n (drop w s)

-- all numbers of a list are below b
abbrev pub Below : ℕ → List ℕ → Type 0
Below b s = (k : ℕ) → get_or s k 0 < b

-- opens every definition above
unfoldable pub byte_words : Unit {0}
unfolding bits joined parts_of bytes_of number_written body numbers_in
byte_words = tt
