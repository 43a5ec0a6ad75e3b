use Rattle.schema.proofs.Laws.Searches.{searching_entries}
use Rattle.lookup.proofs.table.entry_named.Goals as goal

pub loop-i-init : goal.loop-i-init
loop-i-init c = search searching_entries

pub entry_cell-w-requires : goal.entry_cell-w-requires
entry_cell-w-requires c = search searching_entries

pub word-requires : goal.word-requires
word-requires c = search searching_entries

pub equal-requires : goal.equal-requires
equal-requires c = search searching_entries

pub returns-then-equal : goal.returns-then-equal
returns-then-equal c = search searching_entries

pub loop-i-smaller : goal.loop-i-smaller
loop-i-smaller c = search searching_entries

pub loop-i-preserved : goal.loop-i-preserved
loop-i-preserved c = search searching_entries

pub returns : goal.returns
returns c = search searching_entries
