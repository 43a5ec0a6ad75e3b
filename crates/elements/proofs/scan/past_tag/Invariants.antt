use Rattle.nodes.proofs.Laws.Scan.{Passing}
use Rattle.elements.proofs.scan.past_tag.Given as goal

abbrev pub invariant-loop-i : goal.invariant-loop-i
invariant-loop-i l = Passing l.text l.at l.i
