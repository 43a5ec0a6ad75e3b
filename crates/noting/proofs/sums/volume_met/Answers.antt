use Rattle.maps.proofs.Laws.Sums.{meeting, met_here}
use Rattle.noting.proofs.sums.volume_met.Goals as goal

pub returns-then-name_is : goal.returns-then-name_is
returns-then-name_is c = search met_here

pub returns-then-is_brain : goal.returns-then-is_brain
returns-then-is_brain c = search meeting
