use Rattle.nodes.specs.Texts.{left}
use Rattle.forms.proofs.Laws.Forms.{Listing}
use Rattle.forms.proofs.wholes_from.Given as goal

abbrev pub invariant-loop-n : goal.invariant-loop-n
invariant-loop-n l = Listing l.text l.at l.most l.i

abbrev pub decreases-loop-n : goal.decreases-loop-n
decreases-loop-n l = left l.text l.i
