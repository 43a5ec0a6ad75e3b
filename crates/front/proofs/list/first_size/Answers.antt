use Rattle.std.proofs.Common.{rules}
use Rattle.nifti.proofs.Laws.Walk.{size_short}
use Rattle.front.proofs.list.first_size.Goals as goal

pub returns-then-list-lt16 : goal.returns-then-list-lt16
returns-then-list-lt16 c = search (size_short, rules)
