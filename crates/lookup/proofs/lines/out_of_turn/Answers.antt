use Rattle.schema.proofs.Laws.Lines.{turning}
use Rattle.lookup.proofs.lines.out_of_turn.Goals as goal

pub kind_cell-requires : goal.kind_cell-requires
kind_cell-requires c = search turning

pub overflow_sub-result : goal.overflow_sub-result
overflow_sub-result c = search turning

pub returns-then-kind_cell-ne0 : goal.returns-then-kind_cell-ne0
returns-then-kind_cell-ne0 c = search turning

pub returns-else-kind_cell-ne0 : goal.returns-else-kind_cell-ne0
returns-else-kind_cell-ne0 c = search turning
