use Prim.Native.Nat.{◌-◌}
use Rattle.models.proofs.Laws.Chaining.{Chaining}
use Rattle.judging.proofs.ranges.ranges_tile.Given as goal

abbrev pub invariant-loop-index : goal.invariant-loop-index
invariant-loop-index l = Chaining l.models l.end l.index

abbrev pub decreases-loop-index : goal.decreases-loop-index
decreases-loop-index l = l.end - l.index
