use Rattle.steps.proofs.Laws.Tags.{ending, close_other, close_whole}
use Rattle.markup.proofs.tags.close_end.Goals as goal

pub returns-in_err-i : goal.returns-in_err-i
returns-in_err-i c = rw c.from_residual.ensures (search ending)

pub returns-in_err-j : goal.returns-in_err-j
returns-in_err-j c = rw c.from_residual-in_err-j.ensures (close_other _ _ _ c.mark_end.ensures c.in_ok-i.was c.mark_end-2.ensures c.in_err-j.was)

pub returns : goal.returns
returns c = close_whole _ _ _ c.mark_end.ensures c.in_ok-i.was c.mark_end-2.ensures c.in_ok-j.was c.blanks_end.ensures c.mark_end-3.ensures
