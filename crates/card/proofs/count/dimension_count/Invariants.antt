use Prim.Native.Nat.{◌-◌}
use Rattle.card.proofs.Laws.Count.{Dimensions}
use Rattle.card.proofs.count.dimension_count.Given as goal

abbrev pub invariant-loop-d : goal.invariant-loop-d
invariant-loop-d l = Dimensions l.answer l.n l.d

abbrev pub decreases-loop-d : goal.decreases-loop-d
decreases-loop-d l = 3 - l.d
