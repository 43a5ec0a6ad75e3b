use Rattle.inside.specs.Treads.{called}
use Rattle.inside.proofs.Laws.Treads.{Seeking, ahead}
use Rattle.inside.proofs.ways.child_named.Given as goal

abbrev pub invariant-loop-k : goal.invariant-loop-k
invariant-loop-k l = Seeking (called l.text l.word) l.n l.text l.at l.left l.kid

abbrev pub decreases-loop-k : goal.decreases-loop-k
decreases-loop-k l = ahead l.text l.kid
