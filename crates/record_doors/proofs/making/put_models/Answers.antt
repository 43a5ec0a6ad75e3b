use Rattle.record_doors.proofs.Laws.Numbers.{writing}
use Rattle.record_doors.proofs.making.put_models.Goals as goal

pub loop-i-init : goal.loop-i-init
loop-i-init c = search writing

pub loop-i-preserved : goal.loop-i-preserved
loop-i-preserved c = search writing

pub returns : goal.returns
returns c = search writing
