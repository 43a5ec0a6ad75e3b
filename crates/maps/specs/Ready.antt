-- THE MAPS OF A GOOD MATRIX, by their places: at most three, once condition 8 is known not to apply.
use Rattle.std.specs.Prelude.{◌≡◌, List, [], false, ℕ, ◌-◌, ◌≤◌, ◌<◌, length, get_or, take, replicate}
use Rattle.lists.specs.Lists.{count, each}
use Rattle.grammar.specs.Document.{Element}
use Rattle.grammar.specs.Look.{children}
use Rattle.nodes.specs.Places.{the}
use Rattle.cifti.specs.Maps.{Map, map_of}
use Rattle.maps.specs.Survey.{Noted}
use Rattle.maps.specs.declared.survey.MapNote.{MapNote}
use Rattle.cifti.specs.declared.answer.Kind.TheVariants.{None}
use Rattle.maps.specs.declared.survey.Maps.{Maps}

-- the maps of the matrix
unfoldable pub matrix_maps : Element → List Map
matrix_maps e = each map_of (children "MatrixIndicesMap" e)

-- ---- The places.

unfoldable pub map_places : Maps → List ℕ
map_places r = each (λ n. n.at) (take r.count r.each)

-- at most three maps, each noted
pub record Ready (text : List ℕ) (r : Maps) : Type 0 where
  pub three : length r.each ≡ 3
  pub few : r.count ≤ 3
  pub noted : (z : MapNote) (i : ℕ) → i < r.count → Noted text (get_or r.each i z)

unfoldable pub maps_at : List ℕ → Maps → List Map
maps_at text r = each (λ p. map_of (the text p)) (map_places r)

-- a place to stand in for one that is not there
abbrev pub no_note : MapNote
no_note = record {
  at = 0;
  behind = 0;
  kind = None;
  lists = record { has = replicate 10 0 };
  length = 0;
  volume = record { found = false; at = 0 };
}
