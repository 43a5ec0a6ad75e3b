use Rattle.schema.proofs.Laws.Walk.{finishing}
use Rattle.walk.proofs.element.finished.Goals as goal

pub returns-then-times_right : goal.returns-then-times_right
returns-then-times_right c = search finishing

pub returns : goal.returns
returns c = search finishing

pub times_right-requires : goal.times_right-requires
times_right-requires c = search finishing

pub refused-requires : goal.refused-requires
refused-requires c = search finishing
