use Rattle.nodes.proofs.Laws.Ahead.{ends}
use Rattle.elements.proofs.ahead.end_at.Goals as goal

pub returns-in-Some : goal.returns-in-Some
returns-in-Some c = search ends

pub returns-in-None : goal.returns-in-None
returns-in-None c = search ends
