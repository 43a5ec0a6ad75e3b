use Rattle.map_names.proofs.Laws.Treads.{on_map}
use Rattle.map_names.proofs.name_on.Goals as goal

pub returns-in-Some : goal.returns-in-Some
returns-in-Some c = search on_map

pub returns-in-None : goal.returns-in-None
returns-in-None c = search on_map
