use Rattle.models.proofs.Laws.Ranges.{Adding}
use Rattle.judging.proofs.ranges.sum.Given as goal

abbrev pub invariant-loop-i : goal.invariant-loop-i
invariant-loop-i l = Adding l.models l.n l.i
