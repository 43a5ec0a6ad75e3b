use Rattle.input.proofs.Laws.Line.{firstSteps}
use Rattle.input.proofs.lengths.lengths_in.Goals as goal

pub returns-in-Last-part_at-2 : goal.returns-in-Last-part_at-2
returns-in-Last-part_at-2 c = search firstSteps

pub returns-in-Comma-part_at-2 : goal.returns-in-Comma-part_at-2
returns-in-Comma-part_at-2 c = search firstSteps

pub returns-in-No-part_at-2 : goal.returns-in-No-part_at-2
returns-in-No-part_at-2 c = search firstSteps

pub returns-in-Last-part_at : goal.returns-in-Last-part_at
returns-in-Last-part_at c = search firstSteps

pub returns-in-No-part_at : goal.returns-in-No-part_at
returns-in-No-part_at c = search firstSteps

pub returns-in-Last : goal.returns-in-Last
returns-in-Last c = search firstSteps

pub returns-in-No : goal.returns-in-No
returns-in-No c = search firstSteps
