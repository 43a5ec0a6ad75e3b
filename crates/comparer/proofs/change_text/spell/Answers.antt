use Rattle.comparer.proofs.Laws.Output.{changeSteps}
use Rattle.comparer.proofs.change_text.spell.Goals as goal

pub returns-in-Same : goal.returns-in-Same
returns-in-Same c = search changeSteps

pub returns-in-Moved : goal.returns-in-Moved
returns-in-Moved c = search changeSteps

pub returns-in-First : goal.returns-in-First
returns-in-First c = search changeSteps

pub returns-in-Second : goal.returns-in-Second
returns-in-Second c = search changeSteps
