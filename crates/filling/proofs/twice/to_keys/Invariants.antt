use Rattle.table.proofs.Laws.Twice.{Keying}
use Rattle.filling.proofs.twice.to_keys.Given as goal

abbrev pub invariant-loop-i : goal.invariant-loop-i
invariant-loop-i l = Keying l.initial.work l.n l.i l.work
