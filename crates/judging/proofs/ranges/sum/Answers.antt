use Rattle.models.proofs.Laws.Ranges.{adding}
use Rattle.judging.proofs.ranges.sum.Goals as goal

pub loop-i-init : goal.loop-i-init
loop-i-init c = search adding

pub loop-i-preserved : goal.loop-i-preserved
loop-i-preserved c = search adding

pub returns : goal.returns
returns c = search adding
