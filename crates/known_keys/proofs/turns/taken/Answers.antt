use Rattle.known_keys.proofs.Laws.Turns.{taken_so}
use Rattle.known_keys.proofs.turns.taken.Goals as goal

pub returns : goal.returns
returns c = taken_so c.gather-turn.ensures c.arrange.ensures
