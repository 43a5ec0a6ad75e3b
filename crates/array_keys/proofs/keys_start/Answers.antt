use Rattle.array_keys.proofs.Laws.Ahead.{start_there, start_nowhere}
use Rattle.array_keys.proofs.keys_start.Goals as goal

pub returns-in-Some : goal.returns-in-Some
returns-in-Some c = start_there _ _ c.text_start.ensures c.in-Some.is c.place.ensures

pub returns-in-None : goal.returns-in-None
returns-in-None c = start_nowhere _ _ c.text_start.ensures c.in-None.is c.place-in-None.ensures
