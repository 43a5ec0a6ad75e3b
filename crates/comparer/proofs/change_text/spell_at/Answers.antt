use Rattle.comparer.proofs.Laws.Output.{atSteps}
use Rattle.comparer.proofs.change_text.spell_at.Goals as goal

pub returns-then-n-first : goal.returns-then-n-first
returns-then-n-first c = search atSteps

pub returns-then-second-j : goal.returns-then-second-j
returns-then-second-j c = search atSteps

pub returns : goal.returns
returns c = search atSteps
