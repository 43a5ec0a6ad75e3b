use Rattle.maps.proofs.Laws.LengthsAgree.{comparing}
use Rattle.survey.proofs.lengths_agree.length_differs.Goals as goal

pub returns-then-dimension_differs : goal.returns-then-dimension_differs
returns-then-dimension_differs c = search comparing

pub loop-d-preserved : goal.loop-d-preserved
loop-d-preserved c = search comparing

pub returns : goal.returns
returns c = search comparing

pub loop-d-init : goal.loop-d-init
loop-d-init c = search comparing

pub dimension_differs-requires : goal.dimension_differs-requires
dimension_differs-requires c = search comparing

pub loop-d-smaller : goal.loop-d-smaller
loop-d-smaller c = search comparing
