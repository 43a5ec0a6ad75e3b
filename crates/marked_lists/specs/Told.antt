-- WHAT ONE READING TELLS OF LISTS: the first of 11 and 12 that applies, and where every place was new that no location is there twice.
use Rattle.std.specs.Prelude.{◌≡◌, ℕ, true, false, List, [], length, nat_eq}
use Rattle.lists.specs.Lists.{two_of}
use Rattle.cifti.specs.Maps.{Voxel, Model, threes, vertex_numbers, voxels_of, same_voxel}
use Rattle.cifti.specs.Conditions.{repeats}
use Rattle.marks.specs.Marks.{Stay}
use Rattle.marks.specs.Apart.{Marking}
use Rattle.models.specs.Verdicts.{list_verdict, lists_verdict, vertices_verdict, voxels_verdict}
use Rattle.marked_lists.specs.Places.{voxel_place}
use Rattle.marked_lists.specs.declared.places.Grid.{Grid}
use Rattle.marked_lists.specs.declared.listing.Verdict.{Verdict}

-- of vertices: they are apart, and marks stay
pub record VerticesTold (size surface : ℕ) (l before : List ℕ) (r : Verdict) (after : List ℕ) : Type 0 where
  pub number_is : r.number ≡ vertices_verdict size surface l
  pub apart_is : r.apart ≡ true → two_of nat_eq l ≡ false
  pub kept : Stay before after

-- of voxels: they are marked, since another model may list one of them
pub record VoxelsTold (size : ℕ) (volume : Voxel) (grid : Grid) (l before : List ℕ) (r : Verdict) (after : List ℕ) : Type 0 where
  pub number_is : r.number ≡ voxels_verdict size volume l
  pub marks : Marking same_voxel (voxel_place grid) (threes l) [] r.apart before after

-- of a model
pub record ModelTold (volume : Voxel) (grid : Grid) (m : Model) (before : List ℕ) (r : Verdict) (after : List ℕ) : Type 0 where
  pub number_is : r.number ≡ list_verdict volume m
  pub vertices_apart : r.apart ≡ true → two_of nat_eq (vertex_numbers m.listed) ≡ false
  pub voxels_marked : Marking same_voxel (voxel_place grid) (voxels_of m.listed) [] r.apart before after

-- of all models of a map
pub record ModelsTold (volume : Voxel) (l : List Model) (before : List ℕ) (r : Verdict) (after : List ℕ) : Type 0 where
  pub number_is : r.number ≡ lists_verdict volume l
  pub apart_is : r.apart ≡ true → repeats l ≡ false
  pub long : length after ≡ length before
