use Rattle.values.proofs.Laws.InTurn.{Walking}
use Rattle.values.proofs.attributes.attributes_fault.Given as goal

abbrev pub invariant-loop-w : goal.invariant-loop-w
invariant-loop-w l = Walking l.table l.letters l.text l.at l.kind l.to l.worst l.w l.i
