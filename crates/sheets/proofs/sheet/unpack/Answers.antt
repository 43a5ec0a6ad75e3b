use Rattle.records.proofs.Laws.Packing.{unpacking}
use Rattle.sheets.proofs.sheet.unpack.Goals as goal

pub returns-then-width-eq0 : goal.returns-then-width-eq0
returns-then-width-eq0 c = search unpacking

pub count_at-n-requires : goal.count_at-n-requires
count_at-n-requires c = search unpacking

pub all_good-requires : goal.all_good-requires
all_good-requires c = search unpacking

pub returns-then-not-all_good : goal.returns-then-not-all_good
returns-then-not-all_good c = search unpacking

pub returns-then-records-n : goal.returns-then-records-n
returns-then-records-n c = search unpacking

pub take_records-requires : goal.take_records-requires
take_records-requires c = search unpacking

pub returns : goal.returns
returns c = search unpacking
