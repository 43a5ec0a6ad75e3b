use Rattle.describing.proofs.Laws.Room.{housing, house_work, house_left}
use Rattle.describing.proofs.room.room_short.Goals as goal
use Rattle.describing.proofs.room.room_short.Goals.{then-lent-size-via-then-lent-size, then-lent-size-via-else-lent-size+then-left-size}

pub loop-i-init : goal.loop-i-init
loop-i-init c = search housing

pub returns-then-lent-size : goal.returns-then-lent-size
returns-then-lent-size c = elim c.then-lent-size.branch [
  | then-lent-size-via-then-lent-size w ↦
      house_work c.loop-i.invariant c.loop-i-test.true c.nth-note.ensures c.reach_of-size.ensures w.if-lent-size.true
  | then-lent-size-via-else-lent-size+then-left-size w ↦
      house_left c.loop-i.invariant c.loop-i-test.true c.nth-note.ensures c.reach_of-size.ensures w.if-left-size.true
]

pub loop-i-preserved : goal.loop-i-preserved
loop-i-preserved c = search housing

pub returns : goal.returns
returns c = search housing

pub nth-note-requires : goal.nth-note-requires
nth-note-requires c = search housing

pub reach_of-size-requires : goal.reach_of-size-requires
reach_of-size-requires c = search housing

pub loop-i-smaller : goal.loop-i-smaller
loop-i-smaller c = search housing
