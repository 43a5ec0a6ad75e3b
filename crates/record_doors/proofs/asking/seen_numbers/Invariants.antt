use Rattle.record_doors.proofs.Laws.Numbers.{Taken}
use Rattle.record_doors.proofs.asking.seen_numbers.Given as goal

abbrev pub invariant-loop-i : goal.invariant-loop-i
invariant-loop-i l = Taken l.list l.initial.state l.state l.i
