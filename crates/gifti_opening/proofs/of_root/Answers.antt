use mathlib.Core.Path.{refl}
use Rattle.gifti_opening.proofs.Laws.Opening.{rooted, root_unread, root_passes}
use Rattle.gifti_opening.proofs.of_root.Goals as goal

pub returns-then-root_wrong : goal.returns-then-root_wrong
returns-then-root_wrong c = search rooted

pub returns-then-fault-eq6 : goal.returns-then-fault-eq6
returns-then-fault-eq6 c = search rooted

pub returns-then-array_not_read : goal.returns-then-array_not_read
returns-then-array_not_read c =
    root_unread c.requires c.root_wrong.ensures c.if-root_wrong.false c.if-fault-eq6.false
    c.array_not_read.ensures c.if-array_not_read.true _ refl refl

pub returns-then-fault-eq0 : goal.returns-then-fault-eq0
returns-then-fault-eq0 c =
    root_passes c.requires c.root_wrong.ensures c.if-root_wrong.false c.if-fault-eq6.false
    c.array_not_read.ensures c.if-array_not_read.false c.if-fault-eq0.true _ refl refl

pub returns : goal.returns
returns c = search rooted

pub root_wrong-requires : goal.root_wrong-requires
root_wrong-requires c = search rooted

pub array_not_read-requires : goal.array_not_read-requires
array_not_read-requires c = search rooted
