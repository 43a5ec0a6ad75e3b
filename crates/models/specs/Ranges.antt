-- THE RANGES OF THE GATHERED MODELS, as the arrays hold them.
use Rattle.std.specs.Prelude.{List, cond, ℕ, ◌<◌, ◌≤◌, ltb, get_or, Option, Some, None}
use Rattle.lists.specs.Lists.{tabulated}
use Rattle.lists.specs.Ranges.{Range}
use Rattle.models.specs.Gathered.{Sized}
use Rattle.models.specs.declared.gather.Models.{Models}

unfoldable pub ranging : (offset size : ℕ) → Range
ranging offset size = record { offset = offset; size = size }

unfoldable pub range_of : Models → ℕ → Range
range_of m i = ranging (get_or m.offset i 0) (get_or m.length i 0)

unfoldable pub ranges_of : Models → List Range
ranges_of m = tabulated m.count (range_of m)

-- each length is one that condition 7 lets pass
pub record Ranged (m : Models) : Type 0 where
  pub sized : Sized m
  pub least : (i : ℕ) → i < m.count → 1 ≤ get_or m.length i 0
  pub most : (i : ℕ) → i < m.count → get_or m.length i 0 ≤ 1048576

-- the first range that begins at an index: the i-th, if there are so many
unfoldable pub range_if : Models → ℕ → Option Range
range_if m i = cond (ltb i m.count) (Some (range_of m i)) None
