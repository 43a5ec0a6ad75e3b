use Prim.Native.Nat.{◌-◌}
use Rattle.input.proofs.Laws.Parts.{Running}
use Rattle.input.proofs.lengths.digits_at.Given as goal

abbrev pub invariant-loop-k : goal.invariant-loop-k
invariant-loop-k l = Running l.word l.at l.n l.k l.i

abbrev pub decreases-loop-k : goal.decreases-loop-k
decreases-loop-k l = 7 - l.k
