use Rattle.input.proofs.Laws.Parts.{digitSteps}
use Rattle.input.proofs.lengths.digit_at.Goals as goal

pub returns-then-word-at : goal.returns-then-word-at
returns-then-word-at c = search digitSteps

pub returns-then-b-lt48 : goal.returns-then-b-lt48
returns-then-b-lt48 c = search digitSteps

pub returns-then-b-gt57 : goal.returns-then-b-gt57
returns-then-b-gt57 c = search digitSteps

pub returns : goal.returns
returns c = search digitSteps
