use Rattle.steps.proofs.Laws.Steps.{Spanning}
use Rattle.steps.specs.Pieces.{plain}
use Rattle.markup.proofs.pieces.far_plain_end.Given as goal

abbrev pub invariant-loop-i : goal.invariant-loop-i
invariant-loop-i l = Spanning plain l.text l.at l.i
