-- The type and the structure of a model, in one number: two models share both if it is the same.
use Rattle.std.specs.Prelude.{List, ℕ, ◌+◌}
use Rattle.nodes.specs.Places.{Stands, the}
use Rattle.cifti.specs.Maps.{Listed, vertices, voxels, Model}
use Rattle.maps.specs.Kinds.{GoodModel}

-- 32 for voxels, and the structure's number
unfoldable pub type_number : Listed → ℕ
type_number (vertices n l) = 0
type_number (voxels l) = 32

unfoldable pub type_and_structure : Model → ℕ
type_and_structure m = type_number m.listed + m.structure

pub record ModelAt (text : List ℕ) (at : ℕ) : Type 0 where
  pub stands : Stands text at
  pub good : GoodModel (the text at)
