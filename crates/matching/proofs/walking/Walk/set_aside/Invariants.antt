use Rattle.std.proofs.Common.{◌+◌, ◌-◌, length}
use Rattle.matching.proofs.Laws.Side.{Going}
use Rattle.matching.proofs.walking.Walk.set_aside.Given as goal

-- what is shared is the pairs taken away and what matches of the numbers set aside and of those ahead
abbrev pub invariant-loop-i : goal.invariant-loop-i
invariant-loop-i l = Going l.self.first l.self.second l.self.turned (length l.initial.work) l.work l.i l.j l.aside l.pairs

abbrev pub decreases-loop-i : goal.decreases-loop-i
decreases-loop-i l = l.self.first.count + l.self.second.count - (l.i + l.j)
