use Rattle.array_keys.proofs.Laws.Ahead.{plainly}
use Rattle.array_keys.proofs.plain_next.Goals as goal

pub returns-in-Key : goal.returns-in-Key
returns-in-Key c = search plainly

pub returns-in-End : goal.returns-in-End
returns-in-End c = search plainly

pub returns-in-Bad : goal.returns-in-Bad
returns-in-Bad c = search plainly
