use Rattle.std.proofs.Common.{rules}
use Rattle.nifti.proofs.Laws.Header.{order_most, order_least}
use Rattle.front.proofs.header.order_of.Goals as goal

pub returns-then-four-eq540 : goal.returns-then-four-eq540
returns-then-four-eq540 c = search (order_most, rules)

pub returns-else-four-eq540 : goal.returns-else-four-eq540
returns-else-four-eq540 c = search (order_least, rules)
