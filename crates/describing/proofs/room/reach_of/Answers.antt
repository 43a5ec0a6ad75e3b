use Rattle.describing.proofs.Laws.Room.{reaching}
use Rattle.describing.proofs.room.reach_of.Goals as goal

pub returns-then-is_brain : goal.returns-then-is_brain
returns-then-is_brain c = search reaching

pub returns-else-is_brain : goal.returns-else-is_brain
returns-else-is_brain c = search reaching
