use mathlib.Core.Bool.{true}
use Rattle.nodes.specs.Texts.{left}
use Rattle.table.proofs.Laws.Listing.{Writing}
use Rattle.filling.proofs.listing.fill_voxels.Given as goal

abbrev pub invariant-loop-x : goal.invariant-loop-x
invariant-loop-x l = Writing true l.structure l.text l.start l.initial.next l.initial.out l.i l.next l.out

abbrev pub decreases-loop-x : goal.decreases-loop-x
decreases-loop-x l = left l.text l.i
