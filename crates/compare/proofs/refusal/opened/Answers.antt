use Rattle.std.proofs.Common.{arith}
use Rattle.comparison.proofs.Laws.Counts.{formed_long, count_by_width}
use Rattle.compare.proofs.refusal.opened.Goals as goal

pub overflow_sub-result : goal.overflow_sub-result
overflow_sub-result c = formed_long _ c.requires

pub width-requires : goal.width-requires
width-requires c = formed_long _ c.requires

pub invariant_of-result : goal.invariant_of-result
invariant_of-result c = record {
  formed = c.requires;
  counts = count_by_width _ c.requires c.width.ensures.is (omega arith);
}
