use Rattle.std.proofs.Common.{arith}
use Rattle.compare.proofs.Laws.Change.{end_is}
use Rattle.compare.proofs.changes.end_said.Goals as goal

pub returns : goal.returns
returns c = end_is _ c.requires c.width.ensures.is (omega (arith, c.from.ensures, c.from-2.ensures, c.from-3.ensures))
