use Rattle.card.proofs.Laws.Card.{passSteps}
use Rattle.card.proofs.line.accepted_line.Goals as goal

pub returns-then-left-lines : goal.returns-then-left-lines
returns-then-left-lines c = search passSteps

pub loop-d-preserved : goal.loop-d-preserved
loop-d-preserved c = search passSteps

pub returns : goal.returns
returns c = search passSteps
