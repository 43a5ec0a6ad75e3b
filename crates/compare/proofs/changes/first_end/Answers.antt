use Rattle.std.proofs.Common.{arith}
use Rattle.compare.proofs.Laws.Change.{end_short, end_first}
use Rattle.compare.proofs.changes.first_end.Goals as goal

pub returns-then-input-lt4 : goal.returns-then-input-lt4
returns-then-input-lt4 c = (end_short _ c.if-input-lt4.true, omega arith)

pub returns-else-input-lt4 : goal.returns-else-input-lt4
returns-else-input-lt4 c = (end_first _ c.if-input-lt4.false c.end_said.ensures c.min.ensures, omega arith)
