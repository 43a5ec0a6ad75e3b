use Rattle.models.proofs.Laws.Ranges.{Beginning}
use Rattle.judging.proofs.ranges.begins_at.Given as goal

abbrev pub invariant-loop-i : goal.invariant-loop-i
invariant-loop-i l = Beginning l.models l.index.0 l.i
