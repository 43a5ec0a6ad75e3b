use Rattle.steps.proofs.Laws.Blocks.{quick_blocks}
use Rattle.letters.proofs.blocks.block_quick.Goals as goal

pub returns : goal.returns
returns c = search quick_blocks
