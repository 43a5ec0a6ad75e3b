use Rattle.table.proofs.Laws.Twice.{looking}
use Rattle.filling.proofs.twice.any_twice.Goals as goal

pub loop-i-init : goal.loop-i-init
loop-i-init c = search looking

pub nth-note-requires : goal.nth-note-requires
nth-note-requires c = search looking

pub models_held-models-requires : goal.models_held-models-requires
models_held-models-requires c = search looking

pub map_twice-requires : goal.map_twice-requires
map_twice-requires c = search looking

pub shape_of-work-then-map_twice : goal.shape_of-work-then-map_twice
shape_of-work-then-map_twice c = search looking

pub returns-then-map_twice : goal.returns-then-map_twice
returns-then-map_twice c = search looking

pub loop-i-smaller : goal.loop-i-smaller
loop-i-smaller c = search looking

pub loop-i-preserved : goal.loop-i-preserved
loop-i-preserved c = search looking

pub shape_of-work : goal.shape_of-work
shape_of-work c = search looking

pub returns : goal.returns
returns c = search looking
