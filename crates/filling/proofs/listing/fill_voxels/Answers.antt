use Rattle.table.proofs.Laws.Listing.{overVoxels}
use Rattle.filling.proofs.listing.fill_voxels.Goals as goal

pub bounds-out-next : goal.bounds-out-next
bounds-out-next c = search overVoxels

pub loop-x-smaller : goal.loop-x-smaller
loop-x-smaller c = search overVoxels

pub loop-x-preserved : goal.loop-x-preserved
loop-x-preserved c = search overVoxels

pub returns-in-End : goal.returns-in-End
returns-in-End c = search overVoxels

pub returns-in-Cut : goal.returns-in-Cut
returns-in-Cut c = search overVoxels
