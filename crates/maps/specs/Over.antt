-- A LOOP OVER THE MAPS, of which there are three at most: what is known of the maps that are left, from the first to the last.
use Rattle.std.specs.Prelude.{List, [], ℕ, get_or}
use Rattle.lists.specs.Lists.{each}
use Rattle.nodes.specs.Places.{the}
use Rattle.cifti.specs.Maps.{Map, map_of}
use Rattle.maps.specs.Ready.{no_note}
use Rattle.maps.specs.declared.survey.MapNote.{MapNote}
use Rattle.maps.specs.declared.survey.Maps.{Maps}

-- the map that is noted
abbrev pub map_on : List ℕ → MapNote → Map
map_on text n = map_of (the text n.at)

-- what is noted of the i-th
unfoldable pub note_at : Maps → ℕ → MapNote
note_at maps i = get_or maps.each i no_note
