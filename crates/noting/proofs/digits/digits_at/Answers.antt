use Rattle.maps.proofs.Laws.Seen.{reading}
use Rattle.noting.proofs.digits.digits_at.Goals as goal

pub returns-then-text-v : goal.returns-then-text-v
returns-then-text-v c = search reading

pub loop-b-init : goal.loop-b-init
loop-b-init c = search reading

pub loop-b-smaller : goal.loop-b-smaller
loop-b-smaller c = search reading

pub loop-b-preserved : goal.loop-b-preserved
loop-b-preserved c = search reading

pub returns-in-None : goal.returns-in-None
returns-in-None c = search reading

pub bounds-text-v : goal.bounds-text-v
bounds-text-v c = search reading

pub overflow_add-i : goal.overflow_add-i
overflow_add-i c = search reading

pub decoded-requires : goal.decoded-requires
decoded-requires c = search reading

pub one_more-dims-requires : goal.one_more-dims-requires
one_more-dims-requires c = search reading
