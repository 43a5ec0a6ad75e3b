use Rattle.table.proofs.Laws.Stretch.{stretching}
use Rattle.filling.proofs.stretches.fill_one.Goals as goal

pub is_brain-requires : goal.is_brain-requires
is_brain-requires c = search stretching

pub fill_models-n-requires : goal.fill_models-n-requires
fill_models-n-requires c = search stretching

pub overflow_add-result : goal.overflow_add-result
overflow_add-result c = search stretching

pub shape_of-records-then-is_brain : goal.shape_of-records-then-is_brain
shape_of-records-then-is_brain c = search stretching

pub returns-then-is_brain : goal.returns-then-is_brain
returns-then-is_brain c = search stretching

pub returns : goal.returns
returns c = search stretching
