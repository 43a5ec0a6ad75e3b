-- CONDITION 13, map after map.
use Rattle.std.specs.Prelude.{cond, ℕ}
use Rattle.cifti.specs.Maps.{is_brain}
use Rattle.maps.specs.declared.survey.MapNote.{MapNote}

-- how many places the map takes, as it is noted
unfoldable pub reach_in : MapNote → ℕ
reach_in n = cond (is_brain n.kind) n.length 0
