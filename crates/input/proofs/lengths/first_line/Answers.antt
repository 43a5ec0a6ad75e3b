use Rattle.input.proofs.Laws.Line.{lineSteps}
use Rattle.input.proofs.lengths.first_line.Goals as goal

pub returns-then-line-eq0 : goal.returns-then-line-eq0
returns-then-line-eq0 c = search lineSteps

pub returns-then-line-last-ne10 : goal.returns-then-line-last-ne10
returns-then-line-last-ne10 c = search lineSteps

pub returns : goal.returns
returns c = search lineSteps
