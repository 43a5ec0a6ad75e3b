use Rattle.steps.proofs.Laws.Attributes.{Listing}
use Prim.Native.Nat.{◌-◌}
use lib.ListN.{length}
use Rattle.heads.proofs.attributes.some_attributes_end.Given as goal

abbrev pub invariant-loop-starts : goal.invariant-loop-starts
invariant-loop-starts l = Listing l.text l.at l.starts l.ends l.n l.i

abbrev pub decreases-loop-starts : goal.decreases-loop-starts
decreases-loop-starts l = length l.text - l.i
