use Rattle.std.proofs.Common.{arith}
use Rattle.matching.proofs.Laws.Side.{some}
use Rattle.matching.proofs.sheet.Sheet.falls.Goals as goal

pub overflow_sub-self : goal.overflow_sub-self
overflow_sub-self c = some c.args.self.now

pub record-requires : goal.record-requires
record-requires c = let h = some c.args.self.now in omega arith

pub record-requires-2 : goal.record-requires-2
record-requires-2 c = some c.args.self.now
