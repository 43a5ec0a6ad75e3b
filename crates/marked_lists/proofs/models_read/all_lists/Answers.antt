use Rattle.marked_lists.proofs.Laws.Models.{overModels}
use Rattle.marked_lists.proofs.models_read.all_lists.Goals as goal

pub loop-i-init : goal.loop-i-init
loop-i-init c = search overModels

pub offset_bounds-models-i : goal.offset_bounds-models-i
offset_bounds-models-i c = search overModels

pub bounds-models-i : goal.bounds-models-i
bounds-models-i c = search overModels

pub surface_start-first-requires : goal.surface_start-first-requires
surface_start-first-requires c = search overModels

pub offset_bounds-models-i-in-loop-i : goal.offset_bounds-models-i-in-loop-i
offset_bounds-models-i-in-loop-i c = search overModels

pub bounds-models-i-in-loop-i : goal.bounds-models-i-in-loop-i
bounds-models-i-in-loop-i c = search overModels

pub offset_bounds-models-i-in-loop-i-2 : goal.offset_bounds-models-i-in-loop-i-2
offset_bounds-models-i-in-loop-i-2 c = search overModels

pub bounds-models-i-in-loop-i-2 : goal.bounds-models-i-in-loop-i-2
bounds-models-i-in-loop-i-2 c = search overModels

pub offset_bounds-models-i-in-loop-i-3 : goal.offset_bounds-models-i-in-loop-i-3
offset_bounds-models-i-in-loop-i-3 c = search overModels

pub bounds-models-i-in-loop-i-3 : goal.bounds-models-i-in-loop-i-3
bounds-models-i-in-loop-i-3 c = search overModels

pub marked_list-v-requires : goal.marked_list-v-requires
marked_list-v-requires c = search overModels

pub shape_of-work-then-v-eq11 : goal.shape_of-work-then-v-eq11
shape_of-work-then-v-eq11 c = search overModels

pub returns-then-v-eq11 : goal.returns-then-v-eq11
returns-then-v-eq11 c = search overModels

pub loop-i-smaller : goal.loop-i-smaller
loop-i-smaller c = search overModels

pub loop-i-preserved : goal.loop-i-preserved
loop-i-preserved c = search overModels

pub verdict_by-requires : goal.verdict_by-requires
verdict_by-requires c = search overModels

pub shape_of-work : goal.shape_of-work
shape_of-work c = search overModels

pub returns : goal.returns
returns c = search overModels
