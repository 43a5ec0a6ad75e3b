use Rattle.steps.proofs.Laws.Between.{Passing}
use lib.ListN.{length, drop}
use Rattle.markup.proofs.pieces.between_end.Given as goal

abbrev pub invariant-loop-k : goal.invariant-loop-k
invariant-loop-k l = Passing l.text l.at l.i

abbrev pub decreases-loop-k : goal.decreases-loop-k
decreases-loop-k l = length (drop l.i l.text)
