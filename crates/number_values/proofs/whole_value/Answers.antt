use Rattle.numbers.proofs.Laws.Values.{whole_past}
use Rattle.numbers.proofs.Laws.Alone.{whole_alone}
use Rattle.number_values.proofs.whole_value.Goals as goal

pub returns-in_err-quote : goal.returns-in_err-quote
returns-in_err-quote c =
    rw c.from_residual.ensures (whole_past c.args.text.now c.args.at c.args.lo c.args.hi c.in_err-quote.ensures.lookup.3)

pub returns : goal.returns
returns c = whole_alone _ _ _ _ (c.in_ok-quote.ensures.lookup.3.1 0) c.alone.ensures
