use Rattle.std.proofs.Common.{arith}
use Rattle.matching.proofs.Laws.Side.{step_first, step_second, step_pair}
use Rattle.matching.proofs.walking.Walk.next_step.Goals as goal

pub returns-then-self-i : goal.returns-then-self-i
returns-then-self-i c = step_second c.args.self.now.first c.args.self.now.second _ _ _ (omega arith)

pub returns-then-self-j : goal.returns-then-self-j
returns-then-self-j c = step_first c.args.self.now.first c.args.self.now.second _ _ _ (omega arith)

pub returns-then-record-second_at : goal.returns-then-record-second_at
returns-then-record-second_at c = step_pair c.args.self.now.first c.args.self.now.second _ _ _ c.if-self-i.false c.if-self-j.false
    c.record.ensures.is c.second_at.ensures.is c.if-record-second_at.true

pub returns-then-first_goes : goal.returns-then-first_goes
returns-then-first_goes c = step_first c.args.self.now.first c.args.self.now.second _ _ _ (omega arith)

pub returns-else-first_goes : goal.returns-else-first_goes
returns-else-first_goes c = step_second c.args.self.now.first c.args.self.now.second _ _ _ (omega arith)
