use Rattle.std.proofs.Common.{arith, rules}
use Rattle.nifti.proofs.Laws.Front.{part_inside, part_cut}
use Rattle.front.proofs.whole.part.Goals as goal

pub overflow_add-result : goal.overflow_add-result
overflow_add-result c = let h = part_inside c.front-said.ensures in omega arith

pub slice_bounds-result-end : goal.slice_bounds-result-end
slice_bounds-result-end c = search (part_inside, part_cut, rules)

pub returns : goal.returns
returns c = search (part_cut, rules)
