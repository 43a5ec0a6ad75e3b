use Rattle.keys.proofs.Laws.KeyLists.{Listing}
use Rattle.nodes.specs.Texts.{left}
use Rattle.keys.proofs.key_lists.keys_from.Given as goal

abbrev pub invariant-loop-j : goal.invariant-loop-j
invariant-loop-j l = Listing l.text l.at l.i

abbrev pub decreases-loop-j : goal.decreases-loop-j
decreases-loop-j l = left l.text l.i
