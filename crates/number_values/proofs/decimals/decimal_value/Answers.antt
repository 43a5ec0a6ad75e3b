use Rattle.numbers.proofs.Laws.Signs.{decimal_past, decimal_fails, decimal_more, decimal_is}
use Rattle.number_values.proofs.decimals.decimal_value.Goals as goal

pub returns-in_err-get : goal.returns-in_err-get
returns-in_err-get c = rw c.from_residual.ensures (decimal_past c.args.text.now c.args.at c.in_err-get.ensures.lookup.3)

pub returns-in_err-d : goal.returns-in_err-d
returns-in_err-d c =
    rw c.from_residual-in_err-d.ensures (decimal_fails _ _ (rw (c.in_ok-get.ensures.lookup.3.1 0) at c.decimal_at.ensures) c.in_err-d.was)

pub returns-in-Some : goal.returns-in-Some
returns-in-Some c =
    decimal_more _ _ (rw (c.in_ok-get.ensures.lookup.3.1 0) at c.decimal_at.ensures) c.in_ok-d.was (rw (c.in_ok-get.ensures.lookup.3.1 0) at c.char_at.ensures) c.in-Some.is

pub returns-in-None : goal.returns-in-None
returns-in-None c =
    decimal_is _ _ (rw (c.in_ok-get.ensures.lookup.3.1 0) at c.decimal_at.ensures) c.in_ok-d.was (rw (c.in_ok-get.ensures.lookup.3.1 0) at c.char_at.ensures) c.in-None.is
