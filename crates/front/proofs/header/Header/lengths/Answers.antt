use Rattle.std.proofs.Common.{rules, tests}
use Rattle.nifti.specs.Header.{lengths_in}
use Rattle.front.proofs.header.Header.lengths.Goals as goal

pub returns-then-not-dims_stand : goal.returns-then-not-dims_stand
unfolding lengths_in
returns-then-not-dims_stand c = search (tests, rules)

pub returns : goal.returns
unfolding lengths_in
returns c = search (tests, rules)
