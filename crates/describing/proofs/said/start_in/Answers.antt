use Rattle.describing.proofs.Laws.Said.{start_told}
use Rattle.describing.proofs.said.start_in.Goals as goal

pub returns-then-is_brain : goal.returns-then-is_brain
returns-then-is_brain c = search start_told

pub returns-else-is_brain : goal.returns-else-is_brain
returns-else-is_brain c = search start_told
