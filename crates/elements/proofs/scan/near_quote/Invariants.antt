use Rattle.elements.proofs.Laws.Tags.{Nearing}
use Rattle.elements.proofs.scan.near_quote.Given as goal

abbrev pub invariant-loop-k : goal.invariant-loop-k
invariant-loop-k l = Nearing l.text l.q l.at l.k
