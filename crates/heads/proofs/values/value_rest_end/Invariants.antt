use Rattle.steps.proofs.Laws.Values.{InValue}
use Prim.Native.Nat.{◌-◌}
use lib.ListN.{length}
use Rattle.heads.proofs.values.value_rest_end.Given as goal

abbrev pub invariant-loop-i : goal.invariant-loop-i
invariant-loop-i l = InValue l.q l.text l.at l.i

abbrev pub decreases-loop-i : goal.decreases-loop-i
decreases-loop-i l = length l.text - l.i
