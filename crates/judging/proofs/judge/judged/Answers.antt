use Rattle.models.proofs.Laws.Judged.{judging}
use Rattle.judging.proofs.judge.judged.Goals as goal

pub no_models-none-requires : goal.no_models-none-requires
no_models-none-requires c = search judging

pub loop-i-init : goal.loop-i-init
loop-i-init c = search judging

pub nth-note-requires : goal.nth-note-requires
nth-note-requires c = search judging

pub map_rule-requires : goal.map_rule-requires
map_rule-requires c = search judging

pub with_ruling-all-requires : goal.with_ruling-all-requires
with_ruling-all-requires c = search judging

pub loop-i-smaller : goal.loop-i-smaller
loop-i-smaller c = search judging

pub loop-i-preserved : goal.loop-i-preserved
loop-i-preserved c = search judging

pub shape_of-work : goal.shape_of-work
shape_of-work c = search judging

pub returns : goal.returns
returns c = search judging
