use Rattle.steps.proofs.Laws.Prologue.{preambles, preamble_some}
use Rattle.markup.proofs.prolog.root_start.Goals as goal

pub returns-in_err-i : goal.returns-in_err-i
returns-in_err-i c = rw c.from_residual.ensures (search preambles)

pub returns : goal.returns
returns c = preamble_some _ c.declaration_end.ensures c.in_ok-i.was c.prologue_end.ensures
