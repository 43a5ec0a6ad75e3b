use Rattle.opening.proofs.Laws.Unread.{level_names}
use Rattle.opening.proofs.unread.level_named.Goals as goal

pub returns-then-level-eq0 : goal.returns-then-level-eq0
returns-then-level-eq0 c = search level_names

pub returns : goal.returns
returns c = search level_names
