-- A model that passes 6 and 7: of a surface or of voxels, as its ModelType says.
use Rattle.std.specs.Prelude.{◌≡◌, [], true, false}
use Rattle.grammar.specs.Document.{Element}
use Rattle.grammar.specs.Look.{has}
use Rattle.cifti.specs.Rows.{surface, voxels}
use Rattle.maps.specs.Good.{Good}

pub data GoodModel (e : Element) : Type 0 where
  surface_model : Good surface e → has "ModelType" "CIFTI_MODEL_TYPE_VOXELS" e ≡ false → GoodModel e
  voxel_model_lem : Good voxels e → has "ModelType" "CIFTI_MODEL_TYPE_VOXELS" e ≡ true → GoodModel e
