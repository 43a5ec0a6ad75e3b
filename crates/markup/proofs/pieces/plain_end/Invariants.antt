use Rattle.steps.proofs.Laws.Steps.{Spanning}
use Rattle.steps.specs.Pieces.{plain}
use Rattle.markup.proofs.pieces.plain_end.Given as goal

abbrev pub invariant-loop : goal.invariant-loop
invariant-loop l = Spanning plain l.text l.at l.i
