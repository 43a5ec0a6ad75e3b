use Rattle.steps.proofs.Laws.Blocks.{blocking, shown_on}
use Rattle.letters.proofs.blocks.block_shown.Goals as goal

pub loop-k-init : goal.loop-k-init
loop-k-init c = search blocking

pub loop-k-preserved : goal.loop-k-preserved
loop-k-preserved c = shown_on c.loop-k.invariant c.loop-k-test.true
