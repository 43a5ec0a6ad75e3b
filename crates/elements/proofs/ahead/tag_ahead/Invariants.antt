use Rattle.nodes.proofs.Laws.Ahead.{Heading}
use Prim.Native.Nat.{◌-◌}
use lib.ListN.{length}
use Rattle.elements.proofs.ahead.tag_ahead.Given as goal

abbrev pub invariant-loop-j : goal.invariant-loop-j
invariant-loop-j l = Heading l.text l.words l.at l.i

abbrev pub decreases-loop-j : goal.decreases-loop-j
decreases-loop-j l = length l.text - l.i
