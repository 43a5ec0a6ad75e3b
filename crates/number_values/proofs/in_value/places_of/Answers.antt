use Rattle.numbers.proofs.Laws.InValue.{power_above, power_below, absolute_places}
use Rattle.number_values.proofs.in_value.places_of.Goals as goal

pub returns-then-power-gt0 : goal.returns-then-power-gt0
returns-then-power-gt0 c = power_above c.args.power c.ranges.power c.if-power-gt0.true

pub returns-then-power-ltminus18 : goal.returns-then-power-ltminus18
returns-then-power-ltminus18 c = power_below c.args.power c.ranges.power c.if-power-ltminus18.true

pub returns : goal.returns
returns c = absolute_places c.args.power c.ranges.power c.if-power-gt0.false c.if-power-ltminus18.false c.unsigned_abs.ensures.value
