use Rattle.steps.proofs.Laws.Pieces.{texts}
use Rattle.markup.proofs.pieces.text_end.Goals as goal

pub returns-in_err-get : goal.returns-in_err-get
returns-in_err-get c = rw c.from_residual.ensures (search texts)

pub returns-in-38 : goal.returns-in-38
returns-in-38 c = search texts

pub returns-in-13 : goal.returns-in-13
returns-in-13 c = search texts

pub returns-in-60 : goal.returns-in-60
returns-in-60 c = search texts

pub returns-in_default : goal.returns-in_default
returns-in_default c = search texts
