use Rattle.known_keys.proofs.Laws.Search.{Halfway}
use Rattle.known_keys.proofs.search.nearest.Given as goal

abbrev pub invariant-loop-n : goal.invariant-loop-n
invariant-loop-n l = Halfway l.keys l.code l.low l.n

abbrev pub decreases-loop-n : goal.decreases-loop-n
decreases-loop-n l = l.n
