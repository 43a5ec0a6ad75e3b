use Rattle.marked_lists.proofs.Laws.Listing.{overVoxels}
use Rattle.marked_lists.proofs.listing.marked_voxels.Goals as goal

pub loop-i-init : goal.loop-i-init
loop-i-init c = search overVoxels

pub loop-i-smaller : goal.loop-i-smaller
loop-i-smaller c = search overVoxels

pub loop-i-preserved : goal.loop-i-preserved
loop-i-preserved c = search overVoxels

pub returns-in-End : goal.returns-in-End
returns-in-End c = search overVoxels

pub returns-in-Cut : goal.returns-in-Cut
returns-in-Cut c = search overVoxels

pub next_voxel-requires : goal.next_voxel-requires
next_voxel-requires c = search overVoxels

pub enum_known-i : goal.enum_known-i
enum_known-i c = search overVoxels

pub overflow_add-voxels : goal.overflow_add-voxels
overflow_add-voxels c = search overVoxels

pub is_outside-out-requires : goal.is_outside-out-requires
is_outside-out-requires c = search overVoxels

pub voxel_place-requires : goal.voxel_place-requires
voxel_place-requires c = search overVoxels

pub mark-new-requires : goal.mark-new-requires
mark-new-requires c = search overVoxels

pub enum_told-1 : goal.enum_told-1
enum_told-1 c = search overVoxels

pub verdict_by-requires : goal.verdict_by-requires
verdict_by-requires c = search overVoxels

pub shape_of-work-in-End : goal.shape_of-work-in-End
shape_of-work-in-End c = search overVoxels

pub enum_told-in-Cut : goal.enum_told-in-Cut
enum_told-in-Cut c = search overVoxels

pub shape_of-work-in-Cut : goal.shape_of-work-in-Cut
shape_of-work-in-Cut c = search overVoxels
