-- The turns of the loop over all models, and the rule of the map.
use Rattle.std.specs.Prelude.{List, [], ℕ}
use Rattle.nodes.specs.Places.{the}
use Rattle.grammar.specs.Look.{contents_of, elements}
use Rattle.maps.specs.Sums.{VolumeLeft}
use Rattle.maps.specs.declared.survey.Seen.{Seen}
use Rattle.models.specs.Held.{BrainHeld}
use Rattle.models.specs.declared.gather.Models.{Models}

-- the models are gathered, and the Volume is noted
pub record Listable (text : List ℕ) (map : ℕ) (m : Models) (s : Seen) : Type 0 where
  pub held : BrainHeld text map m
  pub seen : VolumeLeft text (elements (contents_of (the text map))) [] s
