use Rattle.map_names.specs.Treads.{map_lists_at}
use Rattle.inside.proofs.Laws.Treads.{Seeking, ahead}
use Rattle.map_names.proofs.map_on.Given as goal

abbrev pub invariant-loop-kid : goal.invariant-loop-kid
invariant-loop-kid l = Seeking (map_lists_at l.text l.dimension) 0 l.text l.at 0 l.kid

abbrev pub decreases-loop-kid : goal.decreases-loop-kid
decreases-loop-kid l = ahead l.text l.kid
