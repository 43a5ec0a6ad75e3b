use Rattle.steps.proofs.Laws.Pieces.{pieces}
use Rattle.markup.proofs.pieces.piece_end.Goals as goal

pub returns-in_err-get : goal.returns-in_err-get
returns-in_err-get c = rw c.from_residual.ensures (search pieces)

pub returns-in_default : goal.returns-in_default
returns-in_default c = search pieces
