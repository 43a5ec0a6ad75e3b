use Rattle.steps.proofs.Laws.Doctype.{prologues, prologue_some}
use Rattle.markup.proofs.prolog.prologue_end.Goals as goal

pub returns-in_err-i : goal.returns-in_err-i
returns-in_err-i c = rw c.from_residual.ensures (search prologues)

pub returns : goal.returns
returns c = prologue_some _ _ c.asides_end.ensures c.in_ok-i.was c.typed_end.ensures
