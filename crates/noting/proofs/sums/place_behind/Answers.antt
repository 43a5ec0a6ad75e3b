use Rattle.maps.proofs.Laws.Sums.{behind_so}
use Rattle.noting.proofs.sums.place_behind.Goals as goal

pub returns-in-Some : goal.returns-in-Some
returns-in-Some c = search behind_so

pub returns-in-None : goal.returns-in-None
returns-in-None c = search behind_so
