use Rattle.compare.proofs.Laws.Answer.{number_twice, none_twice}
use Rattle.compare.proofs.refusal.accepted.Goals as goal

pub returns-then-location_twice : goal.returns-then-location_twice
returns-then-location_twice c =
    let b = c.in_ok-one.ensures in
    number_twice c.in_ok-one.one c.in_ok-one.two b.0 b.1 b.2 c.location_twice.ensures c.if-location_twice.true

pub returns-else-location_twice : goal.returns-else-location_twice
returns-else-location_twice c =
    let b = c.in_ok-one.ensures in
    (b.0, b.1, none_twice c.in_ok-one.one c.in_ok-one.two b.0 b.1 b.2 c.location_twice.ensures c.if-location_twice.false)
