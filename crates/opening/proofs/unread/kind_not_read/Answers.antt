use Rattle.opening.proofs.Laws.Unread.{levels}
use Rattle.opening.proofs.unread.kind_not_read.Goals as goal

pub level_not_read-requires : goal.level_not_read-requires
level_not_read-requires c = search levels

pub returns : goal.returns
returns c = search levels
