use Rattle.maps.proofs.Laws.ListedOnce.{wanting}
use Rattle.survey.proofs.listed_once.times_wanted.Goals as goal

pub returns-then-d-n : goal.returns-then-d-n
returns-then-d-n c = search wanting

pub returns-else-d-n : goal.returns-else-d-n
returns-else-d-n c = search wanting
