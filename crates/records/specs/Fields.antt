-- FIELDS: a number as parts of given widths in bits, the most significant first. Assumes nothing.
use Rattle.std.specs.Prelude.{List, [], ◌∷◌, ℕ, ◌+◌, ◌*◌, ◌/◌, ◌%◌, ◌^◌, ◌<◌}

unfoldable pub bits : List ℕ → ℕ
bits [] = 0
bits (w ∷ ws) = w + bits ws

-- the number that has these parts
unfoldable pub joined : List ℕ → List ℕ → ℕ
joined [] ps = 0
joined (w ∷ ws) [] = 0
joined (w ∷ ws) (p ∷ ps) = p * 2 ^ bits ws + joined ws ps

-- the parts of a number
unfoldable pub parts_of : List ℕ → ℕ → List ℕ
parts_of [] r = []
parts_of (w ∷ ws) r = r / 2 ^ bits ws % 2 ^ w ∷ parts_of ws r

-- a part for each width, and none too large for it
pub data Fit : List ℕ → List ℕ → Type 0 where
  none : Fit [] []
  more : {w p : ℕ} {ws ps : List ℕ} → p < 2 ^ w → Fit ws ps → Fit (w ∷ ws) (p ∷ ps)
