use borrow.Author.Rules.{rules}
use Rattle.steps.proofs.Laws.Blocks.{through_on, by_blocks}
use Rattle.elements.proofs.scan.past_blocks.Goals as goal

pub loop-i-init : goal.loop-i-init
loop-i-init c = search by_blocks

pub loop-i-preserved : goal.loop-i-preserved
loop-i-preserved c = through_on c.loop-i.invariant c.block_lacks.ensures (search rules)
