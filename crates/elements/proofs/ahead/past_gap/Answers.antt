use Rattle.nodes.proofs.Laws.Ahead.{gaps}
use Rattle.elements.proofs.ahead.past_gap.Goals as goal

pub returns-then-words : goal.returns-then-words
returns-then-words c = search gaps

pub returns : goal.returns
returns c = search gaps
