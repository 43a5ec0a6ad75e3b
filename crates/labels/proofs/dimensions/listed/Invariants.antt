use Rattle.labels.proofs.Laws.Dimensions.{Adding}
use Rattle.labels.proofs.dimensions.listed.Given as goal

abbrev pub invariant-loop-d : goal.invariant-loop-d
invariant-loop-d l = Adding l.text l.note l.n l.d
