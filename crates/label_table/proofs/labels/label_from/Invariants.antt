use Rattle.inside.proofs.Laws.Treads.{ahead}
use Rattle.label_table.proofs.Laws.Labels.{Searching}
use Rattle.label_table.proofs.labels.label_from.Given as goal

abbrev pub invariant-loop-kid : goal.invariant-loop-kid
invariant-loop-kid l = Searching l.text l.initial.kid l.kid

abbrev pub decreases-loop-kid : goal.decreases-loop-kid
decreases-loop-kid l = ahead l.text l.kid
