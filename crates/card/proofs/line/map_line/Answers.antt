use Rattle.card.proofs.Laws.Line.{kindSteps}
use Rattle.card.proofs.line.map_line.Goals as goal

pub returns-then-is_brain : goal.returns-then-is_brain
returns-then-is_brain c = search kindSteps

pub returns : goal.returns
returns c = search kindSteps
