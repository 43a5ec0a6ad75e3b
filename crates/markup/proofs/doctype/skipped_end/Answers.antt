use Rattle.steps.proofs.Laws.Doctype.{skipping}
use Rattle.markup.proofs.doctype.skipped_end.Goals as goal

pub returns-in_err-get : goal.returns-in_err-get
returns-in_err-get c = rw c.from_residual.ensures (search skipping)

pub returns-then-not-is_skipped : goal.returns-then-not-is_skipped
returns-then-not-is_skipped c = search skipping

pub returns : goal.returns
returns c = search skipping
