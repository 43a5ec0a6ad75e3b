use Rattle.maps.proofs.Laws.Survey.{noting}
use Rattle.noting.proofs.survey.noted.Goals as goal

pub returns-then-n-lt3 : goal.returns-then-n-lt3
returns-then-n-lt3 c = search noting
