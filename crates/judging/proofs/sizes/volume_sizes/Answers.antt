use Rattle.models.proofs.Laws.Sizes.{volumes}
use Rattle.judging.proofs.sizes.volume_sizes.Goals as goal

pub sizes_at-requires : goal.sizes_at-requires
sizes_at-requires c = search volumes

pub returns-then-volume : goal.returns-then-volume
returns-then-volume c = search volumes

pub returns : goal.returns
returns c = search volumes
