use Rattle.models.proofs.Laws.Chaining.{chaining}
use Rattle.judging.proofs.ranges.ranges_tile.Goals as goal

pub loop-index-init : goal.loop-index-init
loop-index-init c = search chaining

pub returns-then-models-i : goal.returns-then-models-i
returns-then-models-i c = search chaining

pub overflow_add-index : goal.overflow_add-index
overflow_add-index c = search chaining

pub loop-index-preserved : goal.loop-index-preserved
loop-index-preserved c = search chaining

pub returns : goal.returns
returns c = search chaining

pub sum-end-requires : goal.sum-end-requires
sum-end-requires c = search chaining

pub begins_at-i-requires : goal.begins_at-i-requires
begins_at-i-requires c = search chaining

pub offset_bounds-models-i : goal.offset_bounds-models-i
offset_bounds-models-i c = search chaining

pub bounds-models-i : goal.bounds-models-i
bounds-models-i c = search chaining

pub loop-index-smaller : goal.loop-index-smaller
loop-index-smaller c = search chaining
