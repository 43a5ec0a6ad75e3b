-- What a map's list of dimensions is seen to hold.
use Rattle.std.specs.Prelude.{◌≡◌, [], ◌∷◌, ◌++◌, ℕ, ◌+◌, ◌-◌, ◌<◌, min, eqb, length, get_or}
use Rattle.lists.specs.Lists.{count}
use Rattle.grammar.specs.Look.{Word}
use Rattle.maps.specs.declared.dims.Dims.{Dims}

-- ten counts, each of a digit in the bytes, told up to twice
pub record CountsDigits (w : Word) (r : Dims) : Type 0 where
  pub ten : length r.has ≡ 10
  pub each_is : (d : ℕ) → d < 10 → get_or r.has d 0 ≡ min 2 (count (eqb (d + 48)) w)

-- whatever bytes the counts are of, with one more behind them
abbrev pub Grown : ℕ → Dims → Dims → Type 0
Grown b before after = (w : Word) → CountsDigits w before → CountsDigits (w ++ (b ∷ [])) after
