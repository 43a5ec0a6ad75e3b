use Rattle.steps.specs.Blocks.{other}
use Rattle.steps.proofs.Laws.Blocks.{Blocking}
use Rattle.letters.proofs.blocks.block_lacks.Given as goal

abbrev pub invariant-loop-i : goal.invariant-loop-i
invariant-loop-i l = Blocking (other l.sign) l.text l.at l.i l.free
