use Rattle.table.proofs.Laws.Twice.{Look}
use Rattle.maps.specs.Ready.{maps_at}
use Rattle.models.proofs.Laws.Judged.{OverHeld}
use Rattle.filling.proofs.twice.any_twice.Given as goal

abbrev pub invariant-loop-i : goal.invariant-loop-i
invariant-loop-i l = OverHeld l.text l.maps l.judged (Look (maps_at l.text l.maps) l.initial.work l.work) l.i
