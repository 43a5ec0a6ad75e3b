use Rattle.std.proofs.Common.{◌-◌, length}
use Rattle.schema.proofs.Laws.Walk.{Walking}
use Rattle.nodes.proofs.Laws.AheadElements.{left_ahead}
use Rattle.walk.proofs.element.+fault.Given as goal

-- an element below begins later in the text
abbrev pub decreases-fault : goal.decreases-fault
decreases-fault l = length l.text.now - l.at

abbrev pub invariant-loop-next : goal.invariant-loop-next
invariant-loop-next l = Walking l.table l.letters l.text l.at l.kind l.from l.to l.words l.worst l.tally l.next

abbrev pub decreases-loop-next : goal.decreases-loop-next
decreases-loop-next l = left_ahead l.text l.next
