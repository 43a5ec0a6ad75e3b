use Rattle.schema.proofs.Laws.Times.{meeting, meeting_none, meeting_counted}
use Rattle.walk.proofs.tally.child.Goals as goal

pub name-name-requires : goal.name-name-requires
name-name-requires c = search meeting

pub child_kind-requires : goal.child_kind-requires
child_kind-requires c = search meeting

pub counted-requires : goal.counted-requires
counted-requires c = search meeting

pub returns-in_err-inner : goal.returns-in_err-inner
returns-in_err-inner c = rw c.from_residual.ensures
    (meeting_none c.requires _ c.child_kind.ensures c.in_err-inner.was)

pub returns : goal.returns
returns c = meeting_counted c.requires _ c.child_kind.ensures c.in_ok-inner.was c.name-name.ensures
    c.line_named-line.ensures c.counted.ensures
