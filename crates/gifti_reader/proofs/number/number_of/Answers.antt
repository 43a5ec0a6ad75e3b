use Rattle.gifti_reader.proofs.Laws.Number.{numbering}
use Rattle.gifti_reader.proofs.number.number_of.Goals as goal

pub returns-then-twice_in : goal.returns-then-twice_in
returns-then-twice_in c = search numbering

pub returns : goal.returns
returns c = search numbering

pub table_of-table-requires : goal.table_of-table-requires
table_of-table-requires c = search numbering

pub twice_in-requires : goal.twice_in-requires
twice_in-requires c = search numbering

pub number_twice-requires : goal.number_twice-requires
number_twice-requires c = search numbering

pub number_once-requires : goal.number_once-requires
number_once-requires c = search numbering
