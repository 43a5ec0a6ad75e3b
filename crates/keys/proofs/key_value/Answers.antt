use Rattle.std.proofs.Common.{sym, ◌∙◌}
use Rattle.numbers.proofs.Laws.Alone.{key_signed, signed_key_fits, signed_key}
use Rattle.keys.proofs.key_value.Goals as goal

pub returns-in_err-n : goal.returns-in_err-n
returns-in_err-n c =
    rw c.from_residual.ensures (sym c.in_err-n.was ∙ key_signed _ c.key_limit.ensures c.key_limit-2.ensures c.signed_value.ensures)

pub overflow_cast-result : goal.overflow_cast-result
overflow_cast-result c = signed_key_fits _ c.key_limit.ensures c.key_limit-2.ensures c.signed_value.ensures c.in_ok-n.was

pub returns : goal.returns
returns c = signed_key _ c.key_limit.ensures c.key_limit-2.ensures c.signed_value.ensures c.in_ok-n.was
