use Rattle.maps.proofs.Laws.Unread.{unread_one}
use Rattle.opening.proofs.unread.map_not_read.Goals as goal

pub returns-in-Some : goal.returns-in-Some
returns-in-Some c = search unread_one

pub returns-in-None : goal.returns-in-None
returns-in-None c = search unread_one
