use Rattle.steps.proofs.Laws.Doctype.{doctypes, doctype_there}
use Rattle.markup.proofs.doctype.doctype_end.Goals as goal

pub returns-in_err-from : goal.returns-in_err-from
returns-in_err-from c = rw c.from_residual.ensures (search doctypes)

pub returns : goal.returns
returns c = doctype_there _ _ c.mark_end.ensures c.in_ok-from.was c.doctype_rest_end.ensures
