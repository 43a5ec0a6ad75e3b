use Rattle.describing.proofs.Laws.Said.{picking, picking_note}
use Rattle.describing.proofs.said.dimension_at.Goals as goal

pub loop-i-init : goal.loop-i-init
loop-i-init c = search picking

pub described-requires : goal.described-requires
described-requires c = search picking_note

pub returns-then-note-d-ne0 : goal.returns-then-note-d-ne0
returns-then-note-d-ne0 c = search picking

pub overflow_add-start : goal.overflow_add-start
overflow_add-start c = search picking

pub loop-i-preserved : goal.loop-i-preserved
loop-i-preserved c = search picking

pub returns : goal.returns
returns c = search picking

pub nth-note-requires : goal.nth-note-requires
nth-note-requires c = search picking

pub reach_of-requires : goal.reach_of-requires
reach_of-requires c = search picking

pub loop-i-smaller : goal.loop-i-smaller
loop-i-smaller c = search picking

pub unused-requires : goal.unused-requires
unused-requires c = search picking
