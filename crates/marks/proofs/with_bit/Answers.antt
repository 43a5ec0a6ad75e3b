use Rattle.marks.proofs.Marking.{marking}
use Rattle.marks.proofs.with_bit.Goals as goal

pub overflow_add-result : goal.overflow_add-result
overflow_add-result c = search marking
