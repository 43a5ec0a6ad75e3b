use Rattle.base64_reader.proofs.Laws.Letters.{Passing}
use Rattle.nodes.specs.Texts.{left}
use Rattle.base64_reader.proofs.values.next_letter.Given as goal

abbrev pub invariant-loop-b : goal.invariant-loop-b
invariant-loop-b l = Passing l.text l.at l.i

abbrev pub decreases-loop-b : goal.decreases-loop-b
decreases-loop-b l = left l.text l.i
