-- The Labels that are still to come on a walk over a table, and their keys as codes.
use Rattle.std.specs.Prelude.{List, [], ◌∷◌, ℕ, Option, Some, None}
use Rattle.lists.specs.Lists.{each}
use Rattle.nodes.specs.Children.{next}
use Rattle.label_table.specs.Labels.{labels_from}
use Rattle.label_table.specs.Codes.{code_here}

-- the Labels from one on
unfoldable pub row : List ℕ → Option ℕ → List ℕ
row text None = []
row text (Some k) = k ∷ labels_from text (next text k)

-- what is still to come
abbrev pub to_come : List ℕ → Option ℕ → List ℕ
to_come text kid = each (code_here text) (row text kid)
