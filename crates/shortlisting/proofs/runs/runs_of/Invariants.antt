use Rattle.std.proofs.Common.{◌-◌, length}
use Rattle.shortlist.proofs.Laws.Walking.{Walked}
use Rattle.shortlisting.proofs.runs.runs_of.Given as goal

abbrev pub invariant-loop-at : goal.invariant-loop-at
invariant-loop-at l = Walked l.records l.at l.seen l.made

abbrev pub decreases-loop-at : goal.decreases-loop-at
decreases-loop-at l = length l.records - l.at
