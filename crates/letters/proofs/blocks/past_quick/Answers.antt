use Rattle.std.proofs.Common.{ap, not}
use Rattle.steps.proofs.Laws.Blocks.{by_blocks, through_on}
use Rattle.letters.proofs.blocks.past_quick.Goals as goal

pub loop-i-init : goal.loop-i-init
loop-i-init c = search by_blocks

pub loop-i-preserved : goal.loop-i-preserved
loop-i-preserved c = through_on c.loop-i.invariant c.block_quick.ensures (ap not c.if-block_quick.true)
