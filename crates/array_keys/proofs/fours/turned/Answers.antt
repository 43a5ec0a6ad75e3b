use Rattle.array_keys.proofs.Laws.Gathered.{turning}
use Rattle.array_keys.proofs.fours.turned.Goals as goal

pub returns : goal.returns
returns c = search turning
