use lib.ListN.{length}
use Rattle.label_table.proofs.Laws.Labels.{Counting}
use Rattle.label_table.specs.Walks.{row}
use Rattle.label_table.proofs.listed.key_count.Given as goal

abbrev pub invariant-loop-kid : goal.invariant-loop-kid
invariant-loop-kid l = Counting l.text l.at l.n l.kid

abbrev pub decreases-loop-kid : goal.decreases-loop-kid
decreases-loop-kid l = length (row l.text l.kid)
