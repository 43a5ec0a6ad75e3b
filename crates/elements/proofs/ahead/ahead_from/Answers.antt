use Rattle.nodes.proofs.Laws.Ahead.{passing}
use Rattle.elements.proofs.ahead.ahead_from.Goals as goal

pub returns-in-Child : goal.returns-in-Child
returns-in-Child c = search passing

pub returns-in-End : goal.returns-in-End
returns-in-End c = search passing

pub returns-in-Stray : goal.returns-in-Stray
returns-in-Stray c = search passing
