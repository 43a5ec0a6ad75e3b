use Rattle.describing.proofs.Laws.Said.{answering, answered}
use Rattle.describing.proofs.said.accepted.Goals as goal

pub returns : goal.returns
returns c = answered _ c.dimension_at-first.ensures c.dimension_at-second.ensures c.dimension_at-third.ensures

pub dimension_at-first-requires : goal.dimension_at-first-requires
dimension_at-first-requires c = search answering

pub dimension_at-second-requires : goal.dimension_at-second-requires
dimension_at-second-requires c = search answering

pub dimension_at-third-requires : goal.dimension_at-third-requires
dimension_at-third-requires c = search answering
