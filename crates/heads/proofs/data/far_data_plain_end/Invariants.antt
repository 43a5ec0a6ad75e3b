use Rattle.steps.proofs.Laws.Steps.{Spanning}
use Rattle.steps.specs.Leaves.{data_plain}
use Rattle.heads.proofs.data.far_data_plain_end.Given as goal

abbrev pub invariant-loop-i : goal.invariant-loop-i
invariant-loop-i l = Spanning data_plain l.text l.at l.i
