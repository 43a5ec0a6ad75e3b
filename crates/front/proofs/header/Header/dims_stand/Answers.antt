use Rattle.std.proofs.Common.{rules, tests}
use Rattle.nifti.specs.File.{dims_stand}
use Rattle.nifti.proofs.Laws.Header.{count_few}
use Rattle.front.proofs.header.Header.dims_stand.Goals as goal

pub lengths_stand-requires : goal.lengths_stand-requires
lengths_stand-requires c = let f = count_few c.args.self.now.file.now in search rules

pub returns-then-ones_stand : goal.returns-then-ones_stand
unfolding dims_stand
returns-then-ones_stand c = search (tests, rules)

pub returns-else-ones_stand : goal.returns-else-ones_stand
unfolding dims_stand
returns-else-ones_stand c = search (tests, rules)
