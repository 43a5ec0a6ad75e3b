use mathlib.Core.Bool.{true}
use Rattle.maps.proofs.Laws.Sums.{Summing}
use Rattle.nodes.proofs.Laws.Along.{AlongAhead}
use Rattle.nodes.proofs.Laws.AheadElements.{left_ahead}
use Rattle.noting.proofs.sums.children_sum.Given as goal

abbrev pub invariant-loop-next : goal.invariant-loop-next
invariant-loop-next l = AlongAhead l.text l.at true (Summing l.text l.at l.kind l.n l.seen) l.next

abbrev pub decreases-loop-next : goal.decreases-loop-next
decreases-loop-next l = left_ahead l.text l.next
