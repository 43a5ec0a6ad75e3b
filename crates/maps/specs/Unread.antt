-- Conditions 4 and 5: the root, and the kinds of maps that are not read.
use Rattle.std.specs.Prelude.{[], Bool}
use Rattle.grammar.specs.Document.{Element}
use Rattle.grammar.specs.Look.{has}

-- ---- Condition 5.

unfoldable pub not_read : Element → Bool
not_read m = has "IndicesMapToDataType" "CIFTI_INDEX_TYPE_PARCELS" m
