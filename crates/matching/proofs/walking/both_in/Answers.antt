use Rattle.std.proofs.Common.{arith}
use Rattle.matching.proofs.Laws.Side.{shared, shared_few}
use Rattle.matching.proofs.walking.both_in.Goals as goal

pub overflow_add-result : goal.overflow_add-result
overflow_add-result c =
    let few = shared_few _ _ c.new.ensures.0 c.new.ensures.1 c.set_aside-left.ensures c.count_matched.ensures in
    omega arith

pub returns : goal.returns
returns c = shared _ _ c.new.ensures.0 c.new.ensures.1 c.set_aside-left.ensures c.count_matched.ensures
