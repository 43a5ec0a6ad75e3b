use Rattle.models.proofs.Laws.Ranges.{beginning}
use Rattle.judging.proofs.ranges.begins_at.Goals as goal

pub loop-i-init : goal.loop-i-init
loop-i-init c = search beginning

pub returns-then-models-i : goal.returns-then-models-i
returns-then-models-i c = search beginning

pub loop-i-preserved : goal.loop-i-preserved
loop-i-preserved c = search beginning

pub returns : goal.returns
returns c = search beginning
