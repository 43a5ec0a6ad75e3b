-- MATCHED: how many even numbers of a list have their successor in it. Assumes nothing.
use Rattle.std.specs.Prelude.{Bool, ◌&&◌, List, ℕ, ◌+◌, ◌%◌, eqb}
use Rattle.lists.specs.Lists.{count}
use Rattle.lists.specs.Reordered.{member}

-- an even number whose successor stands in the list; how many are so
unfoldable pub paired : List ℕ → ℕ → Bool
paired l x = eqb (x % 2) 0 && member (x + 1) l

unfoldable pub matched : List ℕ → ℕ
matched l = count (paired l) l
