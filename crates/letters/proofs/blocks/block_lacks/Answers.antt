use Rattle.steps.specs.Blocks.{other}
use Rattle.steps.proofs.Laws.Blocks.{block_start, other_on}
use Rattle.letters.proofs.blocks.block_lacks.Goals as goal

pub loop-i-init : goal.loop-i-init
loop-i-init c = block_start (other c.args.sign) c.requires

pub loop-i-preserved : goal.loop-i-preserved
loop-i-preserved c =
    other_on c.args.sign c.loop-i.invariant c.loop-i-test.true
