use Rattle.describing.proofs.Laws.Said.{describing}
use Rattle.describing.proofs.said.described.Goals as goal

pub returns : goal.returns
returns c = search describing

pub dimension_by-requires : goal.dimension_by-requires
dimension_by-requires c = search describing
