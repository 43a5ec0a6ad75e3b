use Rattle.table.proofs.Laws.Placing.{PlacedTo}
use Rattle.filling.proofs.placing.fill_models.Given as goal

abbrev pub invariant-loop-i : goal.invariant-loop-i
invariant-loop-i l = PlacedTo l.text l.models l.initial.out l.start.0 l.n l.i l.out
