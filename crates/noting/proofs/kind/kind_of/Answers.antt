use Rattle.maps.proofs.Laws.MapKind.{asking}
use Rattle.noting.proofs.kind.kind_of.Goals as goal

pub returns-in-Some : goal.returns-in-Some
returns-in-Some c = search asking

pub returns-in-None : goal.returns-in-None
returns-in-None c = search asking
