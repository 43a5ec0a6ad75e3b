use lib.ListN.{length}
use Rattle.label_table.specs.Walks.{row}
use Rattle.key_twice.proofs.Laws.Parts.{Meeting}
use Rattle.key_twice.proofs.parts.one_sifted.Given as goal

abbrev pub invariant-loop-kid : goal.invariant-loop-kid
invariant-loop-kid l = Meeting l.text l.keys l.words l.initial.kid l.kid

abbrev pub decreases-loop-kid : goal.decreases-loop-kid
decreases-loop-kid l = length (row l.text l.kid)
