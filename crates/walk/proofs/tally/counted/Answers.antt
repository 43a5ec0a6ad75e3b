use Rattle.schema.proofs.Laws.Times.{raising}
use Rattle.walk.proofs.tally.counted.Goals as goal

pub here-requires : goal.here-requires
here-requires c = search raising

pub returns : goal.returns
returns c = search raising
