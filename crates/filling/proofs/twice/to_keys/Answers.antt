use Rattle.table.proofs.Laws.Twice.{keying}
use Rattle.filling.proofs.twice.to_keys.Goals as goal

pub loop-i-preserved : goal.loop-i-preserved
loop-i-preserved c = search keying
