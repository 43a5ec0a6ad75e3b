use Rattle.steps.proofs.Laws.Pieces.{halting_at}
use Rattle.markup.proofs.pieces.halt_at.Goals as goal

pub returns-in-Close : goal.returns-in-Close
returns-in-Close c = search halting_at

pub returns-in-Comment : goal.returns-in-Comment
returns-in-Comment c = search halting_at

pub returns-in-Start : goal.returns-in-Start
returns-in-Start c = search halting_at
