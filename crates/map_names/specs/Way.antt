-- THE WAY TO A MAP NAME: the Matrix, the MatrixIndicesMap that lists the dimension, its NamedMap of the index, from 0, and the
-- MapName.
use Rattle.std.specs.Prelude.{List, [], ◌∷◌, Bool, ◌&&◌, ℕ, eqb}
use Prim.Native.String.{String}
use Rattle.lists.specs.Lists.{any}
use Rattle.grammar.specs.Document.{Element}
use Rattle.grammar.specs.Look.{is, name_of, attr}
use Rattle.numbers.specs.Numbers.{dimension_list}
use Rattle.cifti.specs.Maps.{dimensions_of}
use Rattle.inside.specs.Way.{WayStep, step}

unfoldable pub of_name : String → Element → Bool
of_name s e = is s (name_of e)

-- its list of dimensions is in form, and the dimension is in it
unfoldable pub lists_dimension : (dimension : ℕ) → Element → Bool
lists_dimension d e = dimension_list (attr "AppliesToMatrixDimension" e) && any (eqb d) (dimensions_of e)

unfoldable pub map_that_lists : (dimension : ℕ) → Element → Bool
map_that_lists d e = is "MatrixIndicesMap" (name_of e) && lists_dimension d e

unfoldable pub map_way : (dimension : ℕ) → List WayStep
map_way d = step (of_name "Matrix") 0 ∷ step (map_that_lists d) 0 ∷ []

-- the first child of a name, in the NamedMap of the index
unfoldable pub in_map : (name : String) (index : ℕ) → List WayStep
in_map s i = step (of_name "NamedMap") i ∷ step (of_name s) 0 ∷ []

unfoldable pub way_in_map : (name : String) (dimension index : ℕ) → List WayStep
way_in_map s d i = step (of_name "Matrix") 0 ∷ step (map_that_lists d) 0 ∷ in_map s i

unfoldable pub name_way : (dimension index : ℕ) → List WayStep
name_way d i = way_in_map "MapName" d i

unfoldable pub name_ways : Unit {0}
unfolding of_name lists_dimension map_that_lists map_way in_map way_in_map name_way
name_ways = tt
