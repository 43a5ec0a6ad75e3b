use Rattle.card.proofs.Laws.Count.{dimensionSteps}
use Rattle.card.proofs.count.dimension_count.Goals as goal

pub overflow_add-n : goal.overflow_add-n
overflow_add-n c = search dimensionSteps

pub loop-d-preserved : goal.loop-d-preserved
loop-d-preserved c = search dimensionSteps

pub returns : goal.returns
returns c = search dimensionSteps
