-- TAGGED: a record with a bit for its sheet, and what is still ahead of a walk over two lists side by side. Assumes nothing.
use Rattle.std.specs.Prelude.{Bool, cond, List, ◌++◌, map, ℕ, ◌+◌, ◌-◌, ◌*◌, length, take, drop}

abbrev pub tagged : ℕ → ℕ → ℕ
tagged bit r = r * 2 + bit

-- the place of the j-th step over a list of n, from its front or turned round
unfoldable pub place_in : Bool → ℕ → ℕ → ℕ
place_in turned n j = cond turned (n - (j + 1)) j

-- what is left of a list after j steps
unfoldable pub ahead : Bool → ℕ → List ℕ → List ℕ
ahead turned j l = cond turned (take (length l - j) l) (drop j l)

-- the numbers set aside, and those of both lists that are still ahead
abbrev pub in_hand : List ℕ → List ℕ → Bool → List ℕ → ℕ → ℕ → List ℕ
in_hand aside a turned b i j = aside ++ (map (tagged 0) (drop i a) ++ map (tagged 1) (ahead turned j b))
