use Rattle.models.proofs.Laws.Structures.{structured}
use Rattle.judging.proofs.structures.structure_number.Goals as goal

pub returns-in-Some : goal.returns-in-Some
returns-in-Some c = search structured

pub returns-in-None : goal.returns-in-None
returns-in-None c = search structured
