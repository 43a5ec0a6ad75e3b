use Rattle.steps.proofs.Laws.Pieces.{tagged}
use Rattle.markup.proofs.pieces.remark_end.Goals as goal

pub returns-in-Close : goal.returns-in-Close
returns-in-Close c = search tagged

pub returns-in-Comment : goal.returns-in-Comment
returns-in-Comment c = search tagged

pub returns-in-Data : goal.returns-in-Data
returns-in-Data c = search tagged
