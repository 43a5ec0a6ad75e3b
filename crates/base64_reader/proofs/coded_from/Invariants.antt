use Rattle.base64_reader.proofs.Laws.Texts.{Coding}
use Rattle.nodes.specs.Texts.{left}
use Rattle.base64_reader.proofs.coded_from.Given as goal

abbrev pub invariant-loop-i : goal.invariant-loop-i
invariant-loop-i l = Coding l.text l.at l.i

abbrev pub decreases-loop-i : goal.decreases-loop-i
decreases-loop-i l = left l.text l.i
