use Rattle.input.proofs.Laws.Parts.{runSteps, run_room}
use native.Mathlib.Omega.{arith}
use Rattle.input.proofs.lengths.digits_at.Goals as goal

pub loop-k-init : goal.loop-k-init
loop-k-init c = search runSteps

pub overflow_add-i : goal.overflow_add-i
overflow_add-i c = omega (arith, run_room _ _ c.loop-k.invariant c.digit_at-d.ensures (omega arith))

pub loop-k-preserved : goal.loop-k-preserved
loop-k-preserved c = search runSteps
