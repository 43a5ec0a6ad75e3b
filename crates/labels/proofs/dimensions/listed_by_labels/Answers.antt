use Rattle.labels.proofs.Laws.Dimensions.{labelling}
use Rattle.labels.proofs.dimensions.listed_by_labels.Goals as goal

pub returns-then-is_labels : goal.returns-then-is_labels
returns-then-is_labels c = search labelling

pub returns : goal.returns
returns c = search labelling

pub is_labels-requires : goal.is_labels-requires
is_labels-requires c = search labelling

pub listed-requires : goal.listed-requires
listed-requires c = search labelling
