use Rattle.std.proofs.Common.{rules, tests}
use Rattle.nifti.specs.Model.{good_size}
use Rattle.front.proofs.list.good_size.Goals as goal

pub returns-then-size-le2147483647-clause-value : goal.returns-then-size-le2147483647-clause-value
unfolding good_size
returns-then-size-le2147483647-clause-value c = search (tests, rules)

pub returns-else-size-le2147483647-clause-value : goal.returns-else-size-le2147483647-clause-value
unfolding good_size
returns-else-size-le2147483647-clause-value c = search (tests, rules)
