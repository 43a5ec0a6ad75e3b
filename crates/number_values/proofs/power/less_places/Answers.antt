use Rattle.numbers.proofs.Laws.Integers.{lessening}
use Rattle.number_values.proofs.power.less_places.Goals as goal

pub returns-then-negative : goal.returns-then-negative
returns-then-negative c = search lessening

pub returns-then-n-places : goal.returns-then-n-places
returns-then-n-places c = search lessening

pub returns : goal.returns
returns c = search lessening

pub overflow_add-n : goal.overflow_add-n
overflow_add-n c = search lessening

pub within-requires : goal.within-requires
within-requires c = search lessening

pub overflow_sub-places : goal.overflow_sub-places
overflow_sub-places c = search lessening

pub within-requires-then-n-places : goal.within-requires-then-n-places
within-requires-then-n-places c = search lessening

pub within-requires-2 : goal.within-requires-2
within-requires-2 c = search lessening
