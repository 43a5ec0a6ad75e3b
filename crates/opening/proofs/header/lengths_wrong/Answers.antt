use Rattle.opening.proofs.Laws.Opening.{measuring}
use Rattle.opening.proofs.header.lengths_wrong.Goals as goal

pub returns-then-lengths-lt2 : goal.returns-then-lengths-lt2
returns-then-lengths-lt2 c = search measuring

pub returns-then-lengths-gt3 : goal.returns-then-lengths-gt3
returns-then-lengths-gt3 c = search measuring

pub loop-i-init : goal.loop-i-init
loop-i-init c = search measuring

pub returns-then-lengths-i-eq0 : goal.returns-then-lengths-i-eq0
returns-then-lengths-i-eq0 c = search measuring

pub returns-then-lengths-i-gt-MOST_RECORDS : goal.returns-then-lengths-i-gt-MOST_RECORDS
returns-then-lengths-i-gt-MOST_RECORDS c = search measuring

pub loop-i-preserved : goal.loop-i-preserved
loop-i-preserved c = search measuring

pub returns : goal.returns
returns c = search measuring
