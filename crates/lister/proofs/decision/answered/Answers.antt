use Rattle.lister.proofs.Laws.Choosing.{chooseSteps}
use Rattle.lister.proofs.decision.answered.Goals as goal

pub returns-then-bare-eq1 : goal.returns-then-bare-eq1
returns-then-bare-eq1 c = search chooseSteps

pub returns-then-came-gt32768 : goal.returns-then-came-gt32768
returns-then-came-gt32768 c = search chooseSteps

pub returns : goal.returns
returns c = search chooseSteps
