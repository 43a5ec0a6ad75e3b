use Rattle.numbers.proofs.Laws.InValue.{less_is_not, amount_same}
use Rattle.number_values.proofs.in_value.amount_is.Goals as goal

pub returns-then-a-lt0 : goal.returns-then-a-lt0
returns-then-a-lt0 c = less_is_not c.args.a c.ranges.a c.args.n c.if-a-lt0.true

pub returns : goal.returns
returns c = amount_same c.args.a c.ranges.a c.if-a-lt0.false c.args.n
