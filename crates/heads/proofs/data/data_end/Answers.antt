use Rattle.steps.proofs.Laws.Data.{data_whole, data_there}
use Rattle.heads.proofs.data.data_end.Goals as goal

pub returns-in_err-from : goal.returns-in_err-from
returns-in_err-from c = rw c.from_residual.ensures (search data_whole)

pub returns : goal.returns
returns c = data_there _ _ c.mark_end.ensures c.in_ok-from.was c.data_rest_end.ensures
