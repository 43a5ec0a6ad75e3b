use Rattle.std.proofs.Common.{rules}
use Rattle.nifti.proofs.Laws.Reads.{eight_read}
use Rattle.front.proofs.fields.eight.Goals as goal

pub returns : goal.returns
returns c = search (eight_read, rules)
