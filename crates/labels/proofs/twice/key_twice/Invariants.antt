use Rattle.maps.specs.Ready.{maps_at}
use Rattle.maps.proofs.Laws.Over.{Over}
use Rattle.labels.proofs.Laws.Twice.{Twice}
use Rattle.labels.proofs.twice.key_twice.Given as goal

abbrev pub invariant-loop-i : goal.invariant-loop-i
invariant-loop-i l = Over l.text l.maps (Twice (maps_at l.text l.maps)) l.i
