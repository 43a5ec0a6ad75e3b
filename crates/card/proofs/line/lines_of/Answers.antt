use Rattle.card.proofs.Laws.Line.{kindSteps}
use Rattle.card.proofs.line.lines_of.Goals as goal

pub returns-then-kind_number-eq0 : goal.returns-then-kind_number-eq0
returns-then-kind_number-eq0 c = search kindSteps

pub returns : goal.returns
returns c = search kindSteps
