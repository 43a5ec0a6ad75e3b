use Rattle.card.proofs.Laws.Write.{rowSteps}
use Rattle.card.proofs.write.surface_row.Goals as goal

pub returns : goal.returns
returns c = search rowSteps
