use Rattle.numbers.specs.Read.{Seeking}
use Rattle.nodes.specs.Texts.{left}
use Rattle.number_lists.proofs.chars.any_letter.Given as goal

abbrev pub invariant-loop-b : goal.invariant-loop-b
invariant-loop-b l = Seeking l.text l.at l.i

abbrev pub decreases-loop-b : goal.decreases-loop-b
decreases-loop-b l = left l.text l.i
