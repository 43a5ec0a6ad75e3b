use Rattle.std.proofs.Common.{rules}
use Rattle.nifti.proofs.Laws.Zeros.{none_kept, last_passed, last_kept}
use Rattle.front.proofs.list.without_zeros.Goals as goal

pub returns-then-last-ne0 : goal.returns-then-last-ne0
returns-then-last-ne0 c = search (last_kept, rules)

pub loop-kept-preserved : goal.loop-kept-preserved
loop-kept-preserved c = search (last_passed, rules)

pub returns : goal.returns
returns c = search (none_kept, rules)
