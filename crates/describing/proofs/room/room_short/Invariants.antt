use Rattle.describing.proofs.Laws.Room.{House}
use Rattle.maps.specs.Ready.{maps_at}
use Rattle.maps.proofs.Laws.Over.{Over}
use Rattle.describing.proofs.room.room_short.Given as goal

abbrev pub invariant-loop-i : goal.invariant-loop-i
invariant-loop-i l = Over l.text l.maps (House (maps_at l.text l.maps) l.room l.work l.left) l.i
