use Rattle.std.specs.Prelude.{◌-◌}
use Rattle.nifti.proofs.Laws.Walk.{Walking}
use Rattle.front.proofs.list.walked.Given as goal

abbrev pub invariant-loop-place : goal.invariant-loop-place
invariant-loop-place l = Walking l.file l.order l.end l.text l.place

abbrev pub decreases-loop-place : goal.decreases-loop-place
decreases-loop-place l = l.end - l.place
