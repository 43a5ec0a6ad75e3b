use Rattle.nodes.proofs.Laws.Children.{left}
use Rattle.opening.proofs.Laws.Unread.{Levelling}
use Rattle.opening.proofs.unread.+level_not_read.Given as goal

-- a level down
abbrev pub decreases-level_not_read : goal.decreases-level_not_read
decreases-level_not_read l = l.level

abbrev pub invariant-loop-kid : goal.invariant-loop-kid
invariant-loop-kid l = Levelling l.level l.text l.at l.kid

abbrev pub decreases-loop-kid : goal.decreases-loop-kid
decreases-loop-kid l = left l.text l.kid
