use Rattle.models.proofs.Laws.Judged.{ruling}
use Rattle.judging.proofs.judge.map_rule.Goals as goal

pub is_brain-requires : goal.is_brain-requires
is_brain-requires c = search ruling

pub models_of-models-requires : goal.models_of-models-requires
models_of-models-requires c = search ruling

pub returns-then-models : goal.returns-then-models
returns-then-models c = search ruling

pub lists_verdict-v-requires : goal.lists_verdict-v-requires
lists_verdict-v-requires c = search ruling

pub shape_of-work-then-is_brain : goal.shape_of-work-then-is_brain
shape_of-work-then-is_brain c = search ruling

pub returns-then-is_brain : goal.returns-then-is_brain
returns-then-is_brain c = search ruling

pub no_models-requires : goal.no_models-requires
no_models-requires c = search ruling

pub returns : goal.returns
returns c = search ruling
