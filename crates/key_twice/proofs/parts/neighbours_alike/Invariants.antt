use Rattle.key_twice.proofs.Laws.Parts.{Looking}
use Rattle.key_twice.proofs.parts.neighbours_alike.Given as goal

abbrev pub invariant-loop-i : goal.invariant-loop-i
invariant-loop-i l = Looking l.keys l.last l.i
