use Rattle.steps.proofs.Laws.Keys.{named_no_key, named_no_value, named_all}
use Rattle.heads.proofs.attributes.named_at.Goals as goal

pub returns-in_err-key : goal.returns-in_err-key
returns-in_err-key c = rw c.from_residual.ensures (named_no_key _ _ c.key_at.ensures c.in_err-key.was)

pub returns-in_err-end : goal.returns-in_err-end
returns-in_err-end c =
    rw c.from_residual-in_err-end.ensures (named_no_value _ _ c.key_at.ensures c.in_ok-key.was c.value_end.ensures c.in_err-end.was)

pub returns : goal.returns
returns c = named_all _ _ c.key_at.ensures c.in_ok-key.was c.value_end.ensures c.in_ok-end.was
