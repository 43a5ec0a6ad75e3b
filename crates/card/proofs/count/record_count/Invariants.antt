use Prim.Native.Nat.{◌-◌}
use Rattle.card.specs.Card.{answer_dimensions}
use Rattle.card.proofs.Laws.Count.{Stretches}
use Rattle.card.proofs.count.record_count.Given as goal

abbrev pub invariant-loop-round : goal.invariant-loop-round
invariant-loop-round l = Stretches (answer_dimensions l.answer) l.records l.at l.round

abbrev pub decreases-loop-round : goal.decreases-loop-round
decreases-loop-round l = 3 - l.round
