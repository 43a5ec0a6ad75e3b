use Rattle.maps.proofs.Laws.Sums.{weighing}
use Rattle.noting.proofs.sums.weight.Goals as goal

pub returns-then-is_brain : goal.returns-then-is_brain
returns-then-is_brain c = search (c.attribute_number.ensures, weighing)

pub returns-then-counts : goal.returns-then-counts
returns-then-counts c = search weighing

pub returns : goal.returns
returns c = search weighing

pub counts-requires : goal.counts-requires
counts-requires c = search weighing

pub is_brain-requires : goal.is_brain-requires
is_brain-requires c = search weighing

pub attribute_number-requires : goal.attribute_number-requires
attribute_number-requires c = search weighing
