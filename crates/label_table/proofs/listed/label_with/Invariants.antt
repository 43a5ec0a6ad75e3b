use Rattle.std.proofs.Common.{of_z}
use mir.Syntax.{w32}
use lib.ListN.{length}
use Rattle.label_table.proofs.Laws.Labels.{Finding}
use Rattle.label_table.specs.Walks.{row}
use Rattle.label_table.proofs.listed.label_with.Given as goal

abbrev pub invariant-loop-kid : goal.invariant-loop-kid
invariant-loop-kid l = Finding (of_z w32 l.key) l.text l.at l.kid

abbrev pub decreases-loop-kid : goal.decreases-loop-kid
decreases-loop-kid l = length (row l.text l.kid)
