use Rattle.steps.proofs.Laws.Keys.{key_no_gap, key_no_name, key_no_equals, key_all}
use Rattle.heads.proofs.attributes.key_at.Goals as goal

pub returns-in_err-from : goal.returns-in_err-from
returns-in_err-from c = rw c.from_residual.ensures (key_no_gap _ _ c.gap_end.ensures c.in_err-from.was)

pub returns-in_err-to : goal.returns-in_err-to
returns-in_err-to c = rw c.from_residual-in_err-to.ensures (key_no_name _ _ c.gap_end.ensures c.in_ok-from.was c.name_end.ensures c.in_err-to.was)

pub returns-in_err-end : goal.returns-in_err-end
returns-in_err-end c =
    rw c.from_residual-in_err-end.ensures (key_no_equals _ _ c.gap_end.ensures c.in_ok-from.was c.name_end.ensures c.in_ok-to.was
    c.equals_end.ensures c.in_err-end.was)

pub returns : goal.returns
returns c = key_all _ _ c.gap_end.ensures c.in_ok-from.was c.name_end.ensures c.in_ok-to.was c.equals_end.ensures c.in_ok-end.was
