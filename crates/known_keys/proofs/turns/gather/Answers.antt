use Rattle.known_keys.proofs.Laws.Turns.{gathering}
use Rattle.known_keys.proofs.turns.gather.Goals as goal

pub loop-n-smaller : goal.loop-n-smaller
loop-n-smaller c = search gathering

pub loop-n-preserved : goal.loop-n-preserved
loop-n-preserved c = search gathering
