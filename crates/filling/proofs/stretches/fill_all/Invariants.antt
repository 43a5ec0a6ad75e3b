use Rattle.table.proofs.Laws.Stretches.{Fill}
use Rattle.maps.specs.Ready.{maps_at}
use Rattle.models.proofs.Laws.Judged.{OverHeld}
use Rattle.filling.proofs.stretches.fill_all.Given as goal

abbrev pub invariant-loop-i : goal.invariant-loop-i
invariant-loop-i l =
    OverHeld l.text l.maps l.judged (Fill (maps_at l.text l.maps) l.initial.records l.next.0 l.records) l.i
