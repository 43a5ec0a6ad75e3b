use Rattle.std.proofs.Common.{arith}
use Rattle.matching.proofs.Laws.Side.{few}
use Rattle.matching.proofs.walking.Walk.first_goes.Goals as goal

pub overflow_add-i : goal.overflow_add-i
overflow_add-i c = let n = few c.args.self.now.first in omega arith

pub overflow_add-i-then-i-self : goal.overflow_add-i-then-i-self
overflow_add-i-then-i-self c = let n = few c.args.self.now.first in omega arith

pub overflow_add-j : goal.overflow_add-j
overflow_add-j c = let n = few c.args.self.now.second in omega arith

pub overflow_add-j-then-j-self : goal.overflow_add-j-then-j-self
overflow_add-j-then-j-self c = let n = few c.args.self.now.second in omega arith
