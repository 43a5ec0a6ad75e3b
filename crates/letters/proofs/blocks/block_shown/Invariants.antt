use Rattle.steps.specs.Blocks.{shown}
use Rattle.steps.proofs.Laws.Blocks.{Blocking}
use Rattle.letters.proofs.blocks.block_shown.Given as goal

abbrev pub invariant-loop-k : goal.invariant-loop-k
invariant-loop-k l = Blocking shown l.text l.at l.k l.free
