use Rattle.labels.proofs.Laws.Dimensions.{adding}
use Rattle.labels.proofs.dimensions.listed.Goals as goal

pub loop-d-init : goal.loop-d-init
loop-d-init c = search adding

pub loop-d-preserved : goal.loop-d-preserved
loop-d-preserved c = search adding

pub returns : goal.returns
returns c = search adding
