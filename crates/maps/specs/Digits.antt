-- HOW OFTEN A MAP LISTS EACH DIMENSION, told up to twice.
use Rattle.std.specs.Prelude.{◌≡◌, List, [], ℕ, ◌<◌, min, eqb, length, get_or}
use Rattle.lists.specs.Lists.{count}
use Rattle.maps.specs.declared.dims.Dims.{Dims}

-- ten counts, each of a number in the list, told up to twice
pub record CountsNumbers (l : List ℕ) (r : Dims) : Type 0 where
  pub ten : length r.has ≡ 10
  pub tells : (d : ℕ) → d < 10 → get_or r.has d 0 ≡ min 2 (count (eqb d) l)
