use Rattle.letters.proofs.Words.{same_is}
use Rattle.letters.proofs.names.equal.Goals as goal

pub returns : goal.returns
returns c = rw c.eq.ensures (same_is _ _)
