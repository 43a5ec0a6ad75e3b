use Rattle.nodes.specs.Texts.{left}
use Rattle.models.specs.Verdicts.{volume_from}
use Rattle.marked_lists.proofs.Laws.Listing.{VoxelsRead}
use Rattle.marked_lists.proofs.listing.marked_voxels.Given as goal

abbrev pub invariant-loop-i : goal.invariant-loop-i
invariant-loop-i l =
    VoxelsRead l.text l.start (volume_from l.sizes) l.grid l.initial.work l.voxels l.out l.apart l.at l.work

abbrev pub decreases-loop-i : goal.decreases-loop-i
decreases-loop-i l = left l.text l.at
