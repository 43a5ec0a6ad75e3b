use Rattle.marks.proofs.Marking.{marking}
use Rattle.marks.proofs.mark.Goals as goal

pub returns : goal.returns
returns c = search marking
