use Rattle.matching.proofs.Laws.Side.{Level}
use Rattle.matching.proofs.level.same_in.Given as goal

-- so many of the indices passed are the same
abbrev pub invariant-loop-i : goal.invariant-loop-i
invariant-loop-i l = Level l.first l.second l.same l.i
