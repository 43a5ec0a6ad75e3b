use lib.ListN.{length}
use Rattle.label_table.specs.Walks.{to_come}
use Rattle.gifti_arrays.proofs.Laws.Search.{Searching}
use Rattle.gifti_arrays.proofs.search.search_in.Given as goal

abbrev pub invariant-loop-kid : goal.invariant-loop-kid
invariant-loop-kid l = Searching l.text l.root l.table l.initial.work l.work l.known l.kid

abbrev pub decreases-loop-kid : goal.decreases-loop-kid
decreases-loop-kid l = length (to_come l.text l.kid)
