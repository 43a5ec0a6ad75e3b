use Rattle.letters.proofs.Words.{starts_is}
use Rattle.letters.proofs.blanks.starts.Goals as goal

pub returns : goal.returns
returns c = rw c.is_some.ensures (starts_is _ _ _ _ c.mark_end.ensures)
