use Rattle.numbers.proofs.Laws.Colours.{shade_zero, shade_much, shade_few, shade_places, shade_little}
use borrow.Author.Rules.{rules}
use Rattle.keys.proofs.shade.shade_above.Goals as goal

pub returns-then-amount-eq0 : goal.returns-then-amount-eq0
returns-then-amount-eq0 c = shade_zero c.args.amount c.args.power c.ranges.power c.if-amount-eq0.true

pub returns-then-power-gt0 : goal.returns-then-power-gt0
returns-then-power-gt0 c =
    shade_much c.args.amount c.args.power c.ranges.power c.if-amount-eq0.false c.if-power-gt0.true

pub ten_to-requires : goal.ten_to-requires
ten_to-requires c =
    shade_few c.args.amount c.args.power c.ranges.power c.places_of.ensures c.in-Some.is

pub returns-in-Some : goal.returns-in-Some
returns-in-Some c = search (shade_places, rules)

pub returns-in-None : goal.returns-in-None
returns-in-None c =
    shade_little c.args.amount c.args.power c.ranges.power c.places_of.ensures c.requires
    c.in-None.is c.if-power-gt0.false
