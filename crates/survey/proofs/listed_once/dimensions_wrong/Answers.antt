use Rattle.maps.proofs.Laws.ListedOnce.{listed_once, once_wrong, once_more}
use Rattle.survey.proofs.listed_once.dimensions_wrong.Goals as goal

pub returns-then-maps-gt3 : goal.returns-then-maps-gt3
returns-then-maps-gt3 c = search listed_once

pub returns-then-listed-times_wanted : goal.returns-then-listed-times_wanted
returns-then-listed-times_wanted c = once_wrong c.loop-d.invariant c.loop-d-test.true
    c.listed.ensures c.times_wanted.ensures c.if-listed-times_wanted.true

pub returns : goal.returns
returns c = search listed_once

pub loop-d-init : goal.loop-d-init
loop-d-init c = search listed_once

pub listed-requires : goal.listed-requires
listed-requires c = search listed_once

pub times_wanted-requires : goal.times_wanted-requires
times_wanted-requires c = search listed_once

pub loop-d-smaller : goal.loop-d-smaller
loop-d-smaller c = search listed_once

pub loop-d-preserved : goal.loop-d-preserved
loop-d-preserved c = once_more c.loop-d.invariant c.listed.ensures
    c.times_wanted.ensures c.if-listed-times_wanted.false
