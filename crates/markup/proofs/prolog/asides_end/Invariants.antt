use Rattle.steps.proofs.Laws.Prologue.{Asides}
use lib.ListN.{length, drop}
use Rattle.markup.proofs.prolog.asides_end.Given as goal

abbrev pub invariant-loop-at : goal.invariant-loop-at
invariant-loop-at l = Asides l.text l.at l.i

abbrev pub decreases-loop-at : goal.decreases-loop-at
decreases-loop-at l = length (drop l.i l.text)
