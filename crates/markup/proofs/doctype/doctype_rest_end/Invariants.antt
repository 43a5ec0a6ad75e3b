use Rattle.steps.proofs.Laws.Doctype.{InDoctype}
use Prim.Native.Nat.{◌-◌}
use lib.ListN.{length}
use Rattle.markup.proofs.doctype.doctype_rest_end.Given as goal

abbrev pub invariant-loop-i : goal.invariant-loop-i
invariant-loop-i l = InDoctype l.text l.at l.i

abbrev pub decreases-loop-i : goal.decreases-loop-i
decreases-loop-i l = length l.text - l.i
