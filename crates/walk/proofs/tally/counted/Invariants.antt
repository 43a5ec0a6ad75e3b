use Rattle.schema.proofs.Laws.Times.{Raising}
use Rattle.walk.proofs.tally.counted.Given as goal

abbrev pub invariant-loop-i : goal.invariant-loop-i
invariant-loop-i l = Raising l.table l.letters l.name l.from l.line l.to l.initial.more l.more l.i
