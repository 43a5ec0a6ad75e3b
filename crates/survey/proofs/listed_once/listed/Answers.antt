use Rattle.maps.proofs.Laws.ListedOnce.{tallying}
use Rattle.survey.proofs.listed_once.listed.Goals as goal

pub loop-i-init : goal.loop-i-init
loop-i-init c = search tallying

pub overflow_add-n : goal.overflow_add-n
overflow_add-n c = search tallying

pub loop-i-preserved : goal.loop-i-preserved
loop-i-preserved c = search tallying

pub returns : goal.returns
returns c = search tallying
