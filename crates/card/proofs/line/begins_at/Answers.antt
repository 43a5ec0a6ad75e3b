use Rattle.card.proofs.Laws.Line.{kindSteps}
use Rattle.card.proofs.line.begins_at.Goals as goal

pub returns : goal.returns
returns c = search kindSteps
