-- A BRAIN MAP AT A PLACE OF A TEXT, good as conditions 6 and 7 ask: what it holds, and what its children are.
use Rattle.std.specs.Prelude.{◌≡◌, List, ℕ}
use Rattle.nodes.specs.Places.{Stands, the}
use Rattle.cifti.specs.Rows.{brain_models}
use Rattle.cifti.specs.Maps.{kind_of_map}
use Rattle.cifti.specs.declared.answer.Kind.TheVariants.{Brain}
use Rattle.maps.specs.Good.{Good}

pub record BrainAt (text : List ℕ) (map : ℕ) : Type 0 where
  pub stands : Stands text map
  pub good : Good brain_models (the text map)
  pub is_brain_lem : kind_of_map (the text map) ≡ Brain
