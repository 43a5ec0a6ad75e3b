-- Keys as numbers that are not below 0, in their order: -2,147,483,648 is 0.
use Rattle.std.specs.Prelude.{List, ℕ, ◌+◌, ◌-◌, ℤ, pos, negsuc}
use Rattle.lists.specs.Lists.{each}
use Rattle.label_table.specs.Labels.{labels, key_here}

unfoldable pub code_of : ℤ → ℕ
code_of (pos n) = 2147483648 + n
code_of (negsuc n) = 2147483647 - n

unfoldable pub code_here : List ℕ → ℕ → ℕ
code_here text k = code_of (key_here text k)

unfoldable pub codes_at : List ℕ → ℕ → List ℕ
codes_at text at = each (code_here text) (labels text at)
