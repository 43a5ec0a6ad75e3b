use Rattle.std.proofs.Common.{arith, rules}
use Rattle.schema.proofs.Laws.Walk.{walking, walking_deeper, walking_tallying}
use Rattle.walk.proofs.element.+fault.Goals as goal

pub loop-next-init : goal.loop-next-init
loop-next-init t c = search walking

pub child-requires : goal.child-requires
child-requires t c = search (walking_tallying, rules)

pub returns-in_default : goal.returns-in_default
returns-in_default t c = search walking

pub fault-walked-requires : goal.fault-walked-requires
fault-walked-requires t c =
    let d = walking_deeper c.loop-next.invariant c.in-Child.is in
    (omega (arith, c.decreases), search walking)

pub returns-then-worst-eq6 : goal.returns-then-worst-eq6
returns-then-worst-eq6 t c = search walking

pub loop-next-smaller : goal.loop-next-smaller
loop-next-smaller t c = search walking

pub loop-next-preserved : goal.loop-next-preserved
loop-next-preserved t c = search walking

pub returns-in-End : goal.returns-in-End
returns-in-End t c = search walking

pub returns-in-Stray : goal.returns-in-Stray
returns-in-Stray t c = search walking
