use Rattle.maps.proofs.Laws.ListedOnce.{Tally}
use Prim.Native.Nat.{◌<◌}
use Rattle.maps.specs.Ready.{maps_at}
use Rattle.maps.proofs.Laws.Over.{Over}
use Rattle.survey.proofs.listed_once.listed.Given as goal

abbrev pub invariant-loop-i : goal.invariant-loop-i
invariant-loop-i l = Over l.text l.maps (Tally (maps_at l.text l.maps) l.d l.n) l.i × (l.d < 10)
