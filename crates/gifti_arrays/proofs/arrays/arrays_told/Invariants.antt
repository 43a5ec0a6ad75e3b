use Rattle.nodes.specs.Places.{the}
use Rattle.nodes.proofs.Laws.Children.{left}
use Rattle.gifti_arrays.proofs.Laws.Arrays.{Walking}
use Rattle.gifti_arrays.proofs.arrays.arrays_told.Given as goal

abbrev pub invariant-loop-kid : goal.invariant-loop-kid
invariant-loop-kid l =
    Walking l.text (the l.text l.root) l.codes l.arrays l.fit l.keys l.known l.kid

abbrev pub decreases-loop-kid : goal.decreases-loop-kid
decreases-loop-kid l = left l.text l.kid
