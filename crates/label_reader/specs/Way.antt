-- THE WAY TO A LABEL: the Matrix, the MatrixIndicesMap that lists the dimension, its NamedMap of the index, from 0, the LabelTable, and the
-- first Label that has the key.
use Rattle.std.specs.Prelude.{List, [], ◌∷◌, ◌++◌, Bool, ◌&&◌, ℕ, ℤ}
use Rattle.grammar.specs.Document.{Element}
use Rattle.grammar.specs.Look.{is, name_of}
use Rattle.numbers.specs.Numbers.{same_key}
use Rattle.cifti.specs.LabelTable.{label_key}
use Rattle.inside.specs.Way.{WayStep, step}
use Rattle.map_names.specs.Way.{way_in_map}

unfoldable pub table_way : (dimension index : ℕ) → List WayStep
table_way d i = way_in_map "LabelTable" d i

unfoldable pub label_of : (key : ℤ) → Element → Bool
label_of k e = is "Label" (name_of e) && same_key k (label_key e)

unfoldable pub to_label : (key : ℤ) → List WayStep
to_label k = step (label_of k) 0 ∷ []

unfoldable pub label_way : (dimension index : ℕ) (key : ℤ) → List WayStep
label_way d i k = table_way d i ++ to_label k
