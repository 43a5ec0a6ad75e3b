use Rattle.schema.proofs.Laws.Times.{watching}
use Rattle.walk.proofs.tally.is_watched.Goals as goal

pub returns : goal.returns
returns c = search watching
