use Rattle.table.proofs.Laws.Placing.{placing, placed_offset, placed_sum, placed_can, placed_on, placed_done}
use native.Mathlib.Omega.{arith}
use Rattle.filling.proofs.placing.fill_models.Goals as goal

pub overflow_add-n : goal.overflow_add-n
overflow_add-n c = omega (arith, placed_sum c.loop-i.invariant c.loop-i-test.true)

pub loop-i-preserved : goal.loop-i-preserved
loop-i-preserved c = placed_on c.loop-i.invariant c.loop-i-test.true c.fill_model.ensures

pub returns : goal.returns
returns c = placed_done c.loop-i.invariant c.loop-i-test.false

pub loop-i-init : goal.loop-i-init
loop-i-init c = search placing

pub offset_bounds-models-i : goal.offset_bounds-models-i
offset_bounds-models-i c = search placing

pub bounds-models-i : goal.bounds-models-i
bounds-models-i c = search placing

pub offset_bounds-models-i-in-loop-i : goal.offset_bounds-models-i-in-loop-i
offset_bounds-models-i-in-loop-i c = search placing

pub bounds-models-i-in-loop-i : goal.bounds-models-i-in-loop-i
bounds-models-i-in-loop-i c = search placing

pub offset_bounds-models-i-in-loop-i-2 : goal.offset_bounds-models-i-in-loop-i-2
offset_bounds-models-i-in-loop-i-2 c = search placing

pub bounds-models-i-in-loop-i-2 : goal.bounds-models-i-in-loop-i-2
bounds-models-i-in-loop-i-2 c = search placing

pub overflow_add-start : goal.overflow_add-start
overflow_add-start c = omega (
  arith,
  placed_offset c.loop-i.invariant
      c.loop-i-test.true,
)

pub fill_model-requires : goal.fill_model-requires
fill_model-requires c =
    placed_can c.loop-i.invariant c.loop-i-test.true

pub offset_bounds-models-i-in-loop-i-3 : goal.offset_bounds-models-i-in-loop-i-3
offset_bounds-models-i-in-loop-i-3 c = search placing

pub bounds-models-i-in-loop-i-3 : goal.bounds-models-i-in-loop-i-3
bounds-models-i-in-loop-i-3 c = search placing

pub loop-i-smaller : goal.loop-i-smaller
loop-i-smaller c = search placing

pub shape_of-out : goal.shape_of-out
shape_of-out c = search placing
