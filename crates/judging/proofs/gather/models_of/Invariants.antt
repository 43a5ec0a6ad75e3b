use Rattle.nodes.proofs.Laws.Along.{Along}
use Rattle.nodes.proofs.Laws.Children.{left}
use Rattle.models.proofs.Laws.Gathering.{Gathering}
use Rattle.judging.proofs.gather.models_of.Given as goal

abbrev pub invariant-loop-kid : goal.invariant-loop-kid
invariant-loop-kid l = Along l.text (Gathering l.text l.map l.models l.seen) l.kid

abbrev pub decreases-loop-kid : goal.decreases-loop-kid
decreases-loop-kid l = left l.text l.kid
