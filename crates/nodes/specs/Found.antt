-- The value of an attribute by its name, decoded: what was found, as the document has it.
use Rattle.std.specs.Prelude.{List, ℕ, Option, Some, None}
use Rattle.grammar.specs.Look.{or_empty}
use Rattle.nodes.specs.Attributes.{place}
use Rattle.nodes.specs.Values.{value_there}

-- ON BYTES: any
unfoldable pub found_value : List ℕ → Option ℕ → Option (List ℕ)
found_value text None = None
found_value text (Some v) = Some (value_there text v)

-- the value, nothing written where there is none
unfoldable pub value_at_name : List ℕ → ℕ → List ℕ → List ℕ
value_at_name text at w = or_empty (found_value text (place text at w))
