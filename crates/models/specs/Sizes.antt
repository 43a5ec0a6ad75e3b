-- The sizes of a map's volume: those of its first Volume.
use Rattle.std.specs.Prelude.{List, [], ℕ}
use Rattle.grammar.specs.Document.{Element}
use Rattle.grammar.specs.Look.{attr, contents_of, elements}
use Rattle.numbers.specs.Numbers.{comma_values}
use Rattle.nodes.specs.Places.{Stands, the}
use Rattle.cifti.specs.Rows.{volume}
use Rattle.maps.specs.Good.{Good}
use Rattle.maps.specs.Sums.{VolumeLeft}
use Rattle.maps.specs.declared.survey.Seen.{Seen}
use Rattle.models.specs.Brain.{BrainAt}

pub record VolumeAt (text : List ℕ) (at : ℕ) : Type 0 where
  pub stands : Stands text at
  pub good : Good volume (the text at)

-- the first Volume of the brain map, as it is noted
pub record VolumeNoted (text : List ℕ) (map : ℕ) (s : Seen) : Type 0 where
  pub brain : BrainAt text map
  pub seen : VolumeLeft text (elements (contents_of (the text map))) [] s

-- the numbers of a Volume
unfoldable pub sizes_at : Element → List ℕ
sizes_at e = comma_values (attr "VolumeDimensions" e)
