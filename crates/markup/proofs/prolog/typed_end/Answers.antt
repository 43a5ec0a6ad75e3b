use Rattle.std.proofs.lemmas.Bool.{not_from_true}
use Rattle.steps.proofs.Laws.Doctype.{typing, typed_on}
use Rattle.markup.proofs.prolog.typed_end.Goals as goal

pub returns-then-text-at : goal.returns-then-text-at
returns-then-text-at c = search typing

pub returns-then-not-starts : goal.returns-then-not-starts
returns-then-not-starts c = search typing

pub returns-in_err-i : goal.returns-in_err-i
returns-in_err-i c = rw c.from_residual.ensures (search typing)

pub returns : goal.returns
returns c = typed_on _ _ c.if-text-at.false c.starts.ensures (not_from_true _ c.if-not-starts.false) c.doctype_end.ensures c.in_ok-i.was c.asides_end.ensures
