use Rattle.models.proofs.Laws.Listings.{starting}
use Rattle.models.proofs.listing.list_start.Goals as goal

pub returns-in-Some : goal.returns-in-Some
returns-in-Some c = search starting

pub returns-in-None : goal.returns-in-None
returns-in-None c = search starting
