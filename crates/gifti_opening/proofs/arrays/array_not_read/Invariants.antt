use Rattle.gifti_opening.proofs.Laws.Arrays.{Reading}
use Rattle.nodes.proofs.Laws.Children.{left}
use Rattle.gifti_opening.proofs.arrays.array_not_read.Given as goal

abbrev pub invariant-loop-kid : goal.invariant-loop-kid
invariant-loop-kid l = Reading l.text l.root l.kid

abbrev pub decreases-loop-kid : goal.decreases-loop-kid
decreases-loop-kid l = left l.text l.kid
