use Rattle.known_keys.proofs.Laws.Search.{halving}
use Rattle.known_keys.proofs.search.nearest.Goals as goal

pub loop-n-preserved : goal.loop-n-preserved
loop-n-preserved c = search halving

pub returns : goal.returns
returns c = search halving
