use Rattle.numbers.proofs.Laws.InValue.{amount_cast}
use Rattle.numbers.proofs.Laws.Colours.{shade_less, shade_above, shade_bound}
use mir.Syntax.{w64}
use mir.ValLaws.{to_z-of_z}
use Rattle.keys.proofs.shade.in_shade.Goals as goal

pub returns-then-amount-lt0 : goal.returns-then-amount-lt0
returns-then-amount-lt0 c = shade_less c.args.amount c.ranges.amount c.args.power c.if-amount-lt0.true

pub overflow_cast-amount : goal.overflow_cast-amount
overflow_cast-amount c = amount_cast c.args.amount c.ranges.amount c.if-amount-lt0.false

pub shade_above-requires : goal.shade_above-requires
shade_above-requires c = shade_bound c.args.amount c.ranges.amount c.if-amount-lt0.false

pub returns : goal.returns
returns c =
    shade_above c.args.amount c.ranges.amount c.if-amount-lt0.false c.args.power
    (rw (to_z-of_z w64 c.args.power c.ranges.power) at c.shade_above.ensures)
