use Rattle.std.proofs.Common.{rules}
use Rattle.nifti.proofs.Laws.Reads.{four_read}
use Rattle.front.proofs.fields.four.Goals as goal

pub returns : goal.returns
returns c = search (four_read, rules)
