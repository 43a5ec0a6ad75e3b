use Rattle.maps.proofs.Laws.Over.{noting_at}
use Rattle.maps.proofs.survey.nth.Goals as goal

pub returns-then-i-lt3 : goal.returns-then-i-lt3
returns-then-i-lt3 c = search noting_at

pub returns : goal.returns
returns c = search noting_at
