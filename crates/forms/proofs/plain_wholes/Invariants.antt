use Rattle.nodes.specs.Texts.{left}
use Rattle.forms.specs.Passed.{NumbersPassed}
use Rattle.forms.proofs.plain_wholes.Given as goal

abbrev pub invariant-loop-at : goal.invariant-loop-at
invariant-loop-at l = NumbersPassed l.text l.at l.most l.i

abbrev pub decreases-loop-at : goal.decreases-loop-at
decreases-loop-at l = left l.text l.i
