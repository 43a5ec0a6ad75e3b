use Rattle.labels.proofs.Laws.Dimensions.{tallying, tally_done}
use Rattle.labels.proofs.dimensions.labels_twice.Goals as goal

pub loop-i-init : goal.loop-i-init
loop-i-init c = search tallying

pub listed_by_labels-requires : goal.listed_by_labels-requires
listed_by_labels-requires c = search tallying

pub loop-i-preserved : goal.loop-i-preserved
loop-i-preserved c = search tallying

pub returns : goal.returns
returns c = tally_done c.loop-i.invariant c.loop-i-test.false

pub nth-note-requires : goal.nth-note-requires
nth-note-requires c = search tallying

pub overflow_add-n : goal.overflow_add-n
overflow_add-n c = search tallying

pub capped-n-requires : goal.capped-n-requires
capped-n-requires c = search tallying

pub loop-i-smaller : goal.loop-i-smaller
loop-i-smaller c = search tallying
