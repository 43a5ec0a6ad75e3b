use Rattle.steps.proofs.Laws.Tags.{opening}
use Rattle.markup.proofs.tags.open_end.Goals as goal

pub returns-in_default : goal.returns-in_default
returns-in_default c = search opening

pub returns-in-Some-mark_end : goal.returns-in-Some-mark_end
returns-in-Some-mark_end c = search opening

pub returns-in-Some-mark_end-2 : goal.returns-in-Some-mark_end-2
returns-in-Some-mark_end-2 c = search opening

pub returns-in-None : goal.returns-in-None
returns-in-None c = search opening
