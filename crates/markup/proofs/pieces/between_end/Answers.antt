use Rattle.steps.proofs.Laws.Between.{passing}
use Rattle.markup.proofs.pieces.between_end.Goals as goal

pub loop-k-smaller : goal.loop-k-smaller
loop-k-smaller c = search passing

pub loop-k-preserved : goal.loop-k-preserved
loop-k-preserved c = search passing

pub returns-in_default : goal.returns-in_default
returns-in_default c = search passing
