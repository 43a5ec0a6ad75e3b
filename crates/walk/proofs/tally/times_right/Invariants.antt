use Rattle.schema.proofs.Laws.Times.{Timing}
use Rattle.walk.proofs.tally.times_right.Given as goal

abbrev pub invariant-loop-i : goal.invariant-loop-i
invariant-loop-i l = Timing l.table l.from l.to l.tally.counts l.tally.met l.i
