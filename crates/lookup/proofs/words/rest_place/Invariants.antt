use Rattle.nodes.specs.Values.{tells}
use lib.ListN.{drop}
use Rattle.schema.specs.Table.{word_at}
use Rattle.schema.proofs.Laws.Searches.{Searching}
use Rattle.lookup.proofs.words.rest_place.Given as goal

abbrev pub invariant-loop-i : goal.invariant-loop-i
invariant-loop-i l = Searching (word_at l.table l.letters) (tells l.quote (drop l.at l.text)) l.from l.to l.i
