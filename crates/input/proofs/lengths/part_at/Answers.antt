use Rattle.input.proofs.Laws.Parts.{partSteps}
use Rattle.input.proofs.lengths.part_at.Goals as goal

pub returns-then-run-eq0 : goal.returns-then-run-eq0
returns-then-run-eq0 c = search partSteps

pub returns-then-word-j : goal.returns-then-word-j
returns-then-word-j c = search partSteps

pub returns-then-word-j-eq44 : goal.returns-then-word-j-eq44
returns-then-word-j-eq44 c = search partSteps

pub returns : goal.returns
returns c = search partSteps
