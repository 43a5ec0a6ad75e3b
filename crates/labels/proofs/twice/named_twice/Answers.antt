use Rattle.labels.proofs.Laws.Lent.{lending}
use Rattle.labels.proofs.Laws.Twice.{asking}
use Rattle.labels.proofs.twice.named_twice.Goals as goal

pub loop-kid-init : goal.loop-kid-init
loop-kid-init c = search (lending, asking)

pub returns-then-key_twice : goal.returns-then-key_twice
returns-then-key_twice c = search (lending, asking)

pub loop-kid-smaller-else-key_twice : goal.loop-kid-smaller-else-key_twice
loop-kid-smaller-else-key_twice c = search (lending, asking)

pub loop-kid-preserved-else-key_twice : goal.loop-kid-preserved-else-key_twice
loop-kid-preserved-else-key_twice c = search (lending, asking)

pub loop-kid-smaller : goal.loop-kid-smaller
loop-kid-smaller c = search (lending, asking)

pub loop-kid-preserved : goal.loop-kid-preserved
loop-kid-preserved c = search (lending, asking)

pub returns-in-None : goal.returns-in-None
returns-in-None c = search (lending, asking)
