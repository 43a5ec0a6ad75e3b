use Rattle.nodes.specs.Scan.{Quoted}
use Rattle.elements.proofs.scan.far_quote.Given as goal

abbrev pub invariant-loop-i : goal.invariant-loop-i
invariant-loop-i l = Quoted l.text l.q l.at l.i
