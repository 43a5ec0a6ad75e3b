use Rattle.maps.specs.Ready.{maps_at}
use Rattle.maps.proofs.Laws.Over.{Over}
use Rattle.labels.proofs.Laws.Dimensions.{Tally}
use Rattle.labels.proofs.dimensions.labels_twice.Given as goal

abbrev pub invariant-loop-i : goal.invariant-loop-i
invariant-loop-i l = Over l.text l.maps (Tally (maps_at l.text l.maps) l.n) l.i
