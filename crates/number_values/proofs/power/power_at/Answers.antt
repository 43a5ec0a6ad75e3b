use Rattle.numbers.proofs.Laws.Powered.{powering, powered_mark}
use Rattle.std.proofs.Common.{rules}
use mir.Syntax.{w64}
use mir.Val.{SFits}
use mir.ValLaws.{to_z-of_z}
use Rattle.number_values.proofs.power.power_at.Goals as goal

pub returns-then-is_blank : goal.returns-then-is_blank
returns-then-is_blank c = search powering

pub returns-then-not-is_mark : goal.returns-then-not-is_mark
returns-then-not-is_mark c = search powering

pub returns-else-not-is_mark : goal.returns-else-not-is_mark
returns-else-not-is_mark c =
    let f : SFits w64 c.args.amount = search rules in
    powered_mark _ _ _ _ _ c.requires.0 c.in-Some.is
    c.is_blank.ensures c.if-is_blank.false
    c.is_mark.ensures c.if-not-is_mark.false c.sign_at-lead.ensures
    (rw (to_z-of_z w64 c.args.amount f) at c.power_digits.ensures)

pub returns-in-None : goal.returns-in-None
returns-in-None c = search powering
