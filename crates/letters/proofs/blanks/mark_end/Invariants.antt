use Rattle.steps.proofs.Laws.Steps.{Marking}
use Rattle.letters.proofs.blanks.mark_end.Given as goal

abbrev pub invariant-loop-b : goal.invariant-loop-b
invariant-loop-b l = Marking l.text l.at l.word l.i l.b-index
