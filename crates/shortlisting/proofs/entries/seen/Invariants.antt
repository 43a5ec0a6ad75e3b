use Rattle.std.specs.Prelude.{◌≡◌, drop}
use Rattle.shortlist.specs.Search.{next_of, folded}
use Rattle.shortlisting.proofs.entries.seen.Given as goal

abbrev pub invariant-loop-model : goal.invariant-loop-model
invariant-loop-model l = folded next_of l.fn.start l.models ≡ folded next_of l.state (drop l.model-index l.models)
