use Rattle.nodes.proofs.Laws.Ahead.{in_tag_ahead}
use Rattle.elements.proofs.ahead.ahead_in_tag.Goals as goal

pub returns-in-Some-Open : goal.returns-in-Some-Open
returns-in-Some-Open c = search in_tag_ahead

pub returns-in-Some-Bare : goal.returns-in-Some-Bare
returns-in-Some-Bare c = search in_tag_ahead

pub returns-in-None : goal.returns-in-None
returns-in-None c = search in_tag_ahead
