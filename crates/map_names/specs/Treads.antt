-- THE WAY TO A MAP NAME AS THE PROGRAM GOES IT, on any bytes.
use Rattle.std.specs.Prelude.{List, [], ◌∷◌, Bool, false, ◌&&◌, ℕ, ltb, Option, Some, None}
use Rattle.grammar.specs.Bytes.{ascii}
use Rattle.nodes.specs.Attributes.{place}
use Rattle.nodes.specs.Values.{value_there}
use Rattle.nodes.specs.Root.{root}
use Rattle.numbers.specs.Answers.{between_in}
use Rattle.inside.specs.Treads.{called}
use Rattle.inside.specs.Treads.{Tread, tread, trod_from}

-- ---- A map that lists the dimension.

unfoldable pub some_of : Option ℕ → Bool
some_of (Some n) = ltb 0 n
some_of None = false

unfoldable pub lists_by : List ℕ → ℕ → Option ℕ → Bool
lists_by text d (Some v) = some_of (between_in d d (value_there text v))
lists_by text d None = false

unfoldable pub lists_at : List ℕ → ℕ → ℕ → Bool
lists_at text d at = lists_by text d (place text at (ascii "AppliesToMatrixDimension"))

unfoldable pub map_lists_at : List ℕ → ℕ → ℕ → Bool
map_lists_at text d at = called text (ascii "MatrixIndicesMap") at && lists_at text d at

-- ---- The treads.

unfoldable pub in_map_treads : (text word : List ℕ) → ℕ → List Tread
in_map_treads text w i = tread (called text (ascii "NamedMap")) i ∷ tread (called text w) 0 ∷ []

unfoldable pub name_treads : (text word : List ℕ) → ℕ → ℕ → List Tread
name_treads text w d i = tread (called text (ascii "Matrix")) 0 ∷ tread (map_lists_at text d) 0 ∷ in_map_treads text w i

unfoldable pub map_treads : List ℕ → ℕ → List Tread
map_treads text d = tread (called text (ascii "Matrix")) 0 ∷ tread (map_lists_at text d) 0 ∷ []

-- where the map that lists the dimension stands, and where the child of that name stands; any bytes
unfoldable pub map_there : (text : List ℕ) (dimension : ℕ) → Option ℕ
map_there text d = trod_from (map_treads text d) text (root text)

unfoldable pub named_at : (text word : List ℕ) (dimension index : ℕ) → Option ℕ
named_at text w d i = trod_from (name_treads text w d i) text (root text)
