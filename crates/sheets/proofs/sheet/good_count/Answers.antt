use borrow.Author.Tests.{lt-leb, le-leb}
use Rattle.records.specs.Sheet.{good_count}
use Rattle.sheets.proofs.sheet.good_count.Goals as goal

pub returns-then-n-ge1 : goal.returns-then-n-ge1
unfolding good_count
returns-then-n-ge1 c = rw (le-leb _ _ c.if-n-ge1.true)

pub returns-else-n-ge1 : goal.returns-else-n-ge1
unfolding good_count
returns-else-n-ge1 c = rw (lt-leb _ _ c.if-n-ge1.false)
