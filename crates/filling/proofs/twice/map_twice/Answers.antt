use Rattle.table.proofs.Laws.Twice.{telling}
use Rattle.filling.proofs.twice.map_twice.Goals as goal

pub is_brain-requires : goal.is_brain-requires
is_brain-requires c = search telling

pub fill_models-n-requires : goal.fill_models-n-requires
fill_models-n-requires c = search telling

pub key_twice-requires : goal.key_twice-requires
key_twice-requires c = search telling

pub shape_of-work-then-is_brain : goal.shape_of-work-then-is_brain
shape_of-work-then-is_brain c = search telling

pub returns-then-is_brain : goal.returns-then-is_brain
returns-then-is_brain c = search telling

pub returns : goal.returns
returns c = search telling
