use Rattle.std.proofs.Common.{rules}
use Rattle.nifti.proofs.Laws.Reads.{dim_is}
use Rattle.front.proofs.header.Header.dim.Goals as goal

pub returns : goal.returns
returns c = search (dim_is, rules)
