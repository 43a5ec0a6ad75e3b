use Rattle.shortlist.proofs.Laws.Walking.{OfKind}
use Rattle.shortlisting.proofs.runs.run_end.Given as goal

abbrev pub invariant-loop-i : goal.invariant-loop-i
invariant-loop-i l = OfKind l.records l.from l.kind l.i
