use Rattle.nodes.proofs.Laws.BlankData.{blank_missing, blank_there}
use Rattle.elements.proofs.ahead.blank_data_end.Goals as goal

pub returns-in_err-i : goal.returns-in_err-i
returns-in_err-i c = rw c.from_residual.ensures (blank_missing _ _ c.mark_end.ensures c.in_err-i.was)

pub returns : goal.returns
returns c = blank_there _ _ c.mark_end.ensures c.in_ok-i.was c.blanks_end.ensures c.mark_end-2.ensures
