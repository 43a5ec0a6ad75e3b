use Rattle.nodes.proofs.Laws.Fronts.{fronting, front_ends, front_other, front_more}
use Rattle.inside.proofs.values.past_word.Goals as goal

pub loop-want-init : goal.loop-want-init
loop-want-init c = search fronting

pub returns-in_err-b : goal.returns-in_err-b
returns-in_err-b c = rw c.from_residual.ensures (front_ends c.loop-want.invariant c.loop-want-test.true c.decoded.ensures c.in_err-b.was)

pub returns-then-b-want : goal.returns-then-b-want
returns-then-b-want c = front_other c.loop-want.invariant c.loop-want-test.true c.decoded.ensures c.in_ok-b.was c.if-b-want.true

pub loop-want-preserved : goal.loop-want-preserved
loop-want-preserved c = front_more c.loop-want.invariant c.loop-want-test.true c.decoded.ensures c.in_ok-b.was c.if-b-want.false

pub returns : goal.returns
returns c = search fronting
