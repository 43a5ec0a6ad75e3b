use Prim.Native.Nat.{◌-◌}
use Rattle.card.specs.Card.{answer_dimensions}
use Rattle.card.proofs.Laws.Records.{Seeking}
use Rattle.card.proofs.line.record_line_at.Given as goal

abbrev pub invariant-loop-round : goal.invariant-loop-round
invariant-loop-round l = Seeking (answer_dimensions l.answer) l.records l.n l.left l.at l.round

abbrev pub decreases-loop-round : goal.decreases-loop-round
decreases-loop-round l = 3 - l.round
