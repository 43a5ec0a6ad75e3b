use Rattle.card.proofs.Laws.Card.{cardSteps}
use Rattle.card.proofs.line.line_at.Goals as goal

pub returns-then-n-eq0 : goal.returns-then-n-eq0
returns-then-n-eq0 c = search cardSteps

pub returns-then-number-ne0 : goal.returns-then-number-ne0
returns-then-number-ne0 c = search cardSteps

pub returns-then-n-eq0-2 : goal.returns-then-n-eq0-2
returns-then-n-eq0-2 c = search cardSteps

pub returns : goal.returns
returns c = search cardSteps
