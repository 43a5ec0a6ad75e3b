use Rattle.std.proofs.Common.{rules}
use Rattle.input.proofs.Laws.Came.{part_came}
use Rattle.input.proofs.came.read_bytes.Goals as goal

pub loop-n-preserved : goal.loop-n-preserved
loop-n-preserved g c = record {
  within = search rules;
  so_far = part_came _ _ _ _ _ _ _ _ c.loop-n.invariant.within c.in-Ok.ensures.bound.0 c.loop-n.invariant.so_far c.in-Ok.ensures.bytes.0;
}
