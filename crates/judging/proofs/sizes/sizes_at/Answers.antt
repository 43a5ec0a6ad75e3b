use Rattle.models.proofs.Laws.Sizes.{sizing}
use Rattle.judging.proofs.sizes.sizes_at.Goals as goal

pub returns-in-None : goal.returns-in-None
returns-in-None c = search sizing

pub returns-in-Some-three_lengths : goal.returns-in-Some-three_lengths
returns-in-Some-three_lengths c = search sizing

pub returns-in-None-three_lengths : goal.returns-in-None-three_lengths
returns-in-None-three_lengths c = search sizing
