use Rattle.std.proofs.Common.{refl}
use Rattle.marked_lists.specs.Places.{voxel_place}
use Rattle.marked_lists.proofs.places.voxel_place.Goals as goal

pub returns : goal.returns
unfolding voxel_place
returns c = refl
