use Rattle.models.proofs.Laws.Structures.{structured}
use Rattle.describing.proofs.series.unit_number.Goals as goal

pub returns-in-Some : goal.returns-in-Some
returns-in-Some c = search structured

pub returns-in-None : goal.returns-in-None
returns-in-None c = search structured
