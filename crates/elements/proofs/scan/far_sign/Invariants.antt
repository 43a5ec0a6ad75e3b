use Rattle.nodes.specs.Scan.{Quoted}
use Rattle.elements.proofs.scan.far_sign.Given as goal

abbrev pub invariant-loop-i : goal.invariant-loop-i
invariant-loop-i l = Quoted l.text 0 l.at l.i
