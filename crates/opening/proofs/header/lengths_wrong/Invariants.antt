use Rattle.opening.proofs.Laws.Opening.{Measuring}
use Rattle.opening.proofs.header.lengths_wrong.Given as goal

abbrev pub invariant-loop-i : goal.invariant-loop-i
invariant-loop-i l = Measuring l.lengths l.i
