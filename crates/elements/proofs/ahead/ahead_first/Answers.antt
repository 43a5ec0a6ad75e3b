use Rattle.nodes.proofs.Laws.Ahead.{starts_ahead}
use Rattle.elements.proofs.ahead.ahead_first.Goals as goal

pub returns-then-text-at : goal.returns-then-text-at
returns-then-text-at c = search starts_ahead

pub returns : goal.returns
returns c = search starts_ahead
