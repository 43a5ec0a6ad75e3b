use mathlib.Core.Path.{◌≡◌}
use Prim.Native.Nat.{◌≤◌, ◌-◌}
use lib.ListN.{drop}
use Rattle.card.specs.Card.{length_from, answer_dimensions}
use Rattle.card.proofs.line.length_from.Given as goal

abbrev pub invariant-loop-d : goal.invariant-loop-d
invariant-loop-d l = (l.d ≤ 3) × (length_from l.at.0 (answer_dimensions l.answer) ≡ length_from l.at.0 (drop l.d (answer_dimensions l.answer)))

abbrev pub decreases-loop-d : goal.decreases-loop-d
decreases-loop-d l = 3 - l.d
