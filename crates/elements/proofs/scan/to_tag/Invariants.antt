use Rattle.nodes.proofs.Laws.Scan.{Seeking}
use Rattle.elements.proofs.scan.to_tag.Given as goal

abbrev pub invariant-loop-i : goal.invariant-loop-i
invariant-loop-i l = Seeking l.text l.at l.i
