use Rattle.steps.proofs.Laws.Noted.{Noting}
use Rattle.heads.proofs.attributes.is_noted.Given as goal

abbrev pub invariant-loop-k : goal.invariant-loop-k
invariant-loop-k l = Noting l.text l.starts l.ends l.n l.from l.to l.k

abbrev pub decreases-loop-k : goal.decreases-loop-k
decreases-loop-k l = l.k
