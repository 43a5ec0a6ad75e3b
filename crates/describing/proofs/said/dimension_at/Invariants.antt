use Rattle.describing.proofs.Laws.Said.{Picking}
use Rattle.describing.proofs.said.dimension_at.Given as goal

abbrev pub invariant-loop-i : goal.invariant-loop-i
invariant-loop-i l = Picking l.text l.maps l.d l.start l.i
