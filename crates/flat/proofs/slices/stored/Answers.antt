use Rattle.flat.proofs.Laws.Flat.{put_steps}
use Rattle.flat.proofs.slices.stored.Goals as goal

pub loop-i-preserved : goal.loop-i-preserved
loop-i-preserved c = search put_steps
