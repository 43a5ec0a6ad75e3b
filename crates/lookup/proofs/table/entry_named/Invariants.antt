use Rattle.schema.specs.Table.{entry_word}
use Rattle.schema.proofs.Laws.Searches.{Searching}
use Rattle.lookup.proofs.table.entry_named.Given as goal

abbrev pub invariant-loop-i : goal.invariant-loop-i
invariant-loop-i l = Searching (entry_word l.table l.letters l.part l.size) l.name l.from l.to l.i
