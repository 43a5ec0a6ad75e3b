use Rattle.card.proofs.Laws.Line.{lengthSteps}
use Rattle.card.proofs.line.length_from.Goals as goal

pub returns-then-begins_at : goal.returns-then-begins_at
returns-then-begins_at c = search lengthSteps

pub loop-d-preserved : goal.loop-d-preserved
loop-d-preserved c = search lengthSteps

pub returns : goal.returns
returns c = search lengthSteps
