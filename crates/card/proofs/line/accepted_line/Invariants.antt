use Prim.Native.Nat.{◌-◌}
use Rattle.card.proofs.Laws.Card.{Passing}
use Rattle.card.proofs.line.accepted_line.Given as goal

abbrev pub invariant-loop-d : goal.invariant-loop-d
invariant-loop-d l = Passing l.answer l.records l.n l.left l.d

abbrev pub decreases-loop-d : goal.decreases-loop-d
decreases-loop-d l = 3 - l.d
