use Rattle.flat.proofs.Laws.Flat.{Putting}
use Rattle.flat.proofs.slices.stored.Given as goal

abbrev pub invariant-loop-i : goal.invariant-loop-i
invariant-loop-i l = Putting l.at l.row l.initial.slice l.i l.slice
