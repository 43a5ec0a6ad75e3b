use Rattle.lister.proofs.Laws.Choosing.{decideSteps}
use Rattle.lister.proofs.decision.decide.Goals as goal

pub returns-in-Two : goal.returns-in-Two
returns-in-Two c = search decideSteps

pub returns-in-Three : goal.returns-in-Three
returns-in-Three c = search decideSteps

pub returns-in-Other : goal.returns-in-Other
returns-in-Other c = search decideSteps
