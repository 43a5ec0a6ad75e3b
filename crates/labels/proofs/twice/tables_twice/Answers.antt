use Rattle.labels.proofs.Laws.Lent.{lending}
use Rattle.labels.proofs.Laws.Twice.{asking}
use Rattle.labels.proofs.twice.tables_twice.Goals as goal

pub loop-kid-init : goal.loop-kid-init
loop-kid-init c = search (lending, asking)

pub returns-then-named_twice : goal.returns-then-named_twice
returns-then-named_twice c = search (lending, asking)

pub loop-kid-smaller-else-named_twice : goal.loop-kid-smaller-else-named_twice
loop-kid-smaller-else-named_twice c = search (lending, asking)

pub loop-kid-preserved-else-named_twice : goal.loop-kid-preserved-else-named_twice
loop-kid-preserved-else-named_twice c = search (lending, asking)

pub loop-kid-smaller : goal.loop-kid-smaller
loop-kid-smaller c = search (lending, asking)

pub loop-kid-preserved : goal.loop-kid-preserved
loop-kid-preserved c = search (lending, asking)

pub returns-in-None : goal.returns-in-None
returns-in-None c = search (lending, asking)

pub first_child-kid-requires : goal.first_child-kid-requires
first_child-kid-requires c = search (lending, asking)

pub enum_known-kid : goal.enum_known-kid
enum_known-kid c = search (lending, asking)

pub next_child-kid-requires : goal.next_child-kid-requires
next_child-kid-requires c = search (lending, asking)

pub name_is-requires : goal.name_is-requires
name_is-requires c = search (lending, asking)

pub named_twice-requires : goal.named_twice-requires
named_twice-requires c = search (lending, asking)

pub shape_of-work-then-named_twice : goal.shape_of-work-then-named_twice
shape_of-work-then-named_twice c = search (lending, asking)

pub enum_told-1 : goal.enum_told-1
enum_told-1 c = search (lending, asking)

pub shape_of-work-in-None : goal.shape_of-work-in-None
shape_of-work-in-None c = search (lending, asking)
