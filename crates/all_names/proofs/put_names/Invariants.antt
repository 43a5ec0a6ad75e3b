use Rattle.inside.proofs.Laws.Treads.{ahead}
use Rattle.all_names.proofs.Laws.Walk.{Filling}
use Rattle.all_names.proofs.put_names.Given as goal

abbrev pub invariant-loop-kid : goal.invariant-loop-kid
invariant-loop-kid l = Filling l.text l.at l.initial.places l.n l.places l.kid

abbrev pub decreases-loop-kid : goal.decreases-loop-kid
decreases-loop-kid l = ahead l.text l.kid
