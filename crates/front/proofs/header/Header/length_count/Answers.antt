use Rattle.std.proofs.Common.{rules}
use Rattle.nifti.proofs.Laws.Reads.{six_counted, seven_counted, none_counted}
use Rattle.front.proofs.header.Header.length_count.Goals as goal

pub returns-in-6 : goal.returns-in-6
returns-in-6 c = search (six_counted, rules)

pub returns-in-7 : goal.returns-in-7
returns-in-7 c = search (seven_counted, rules)

pub returns-in_default : goal.returns-in_default
returns-in_default c = search (none_counted, rules)
