use Rattle.numbers.proofs.Laws.Sixteen.{right_far, right_last, right_near}
use Rattle.std.proofs.Common.{arith, rules}
use mir.Syntax.{w64}
use mir.Val.{SFits}
use mir.ValLaws.{to_z-of_z}
use Rattle.number_values.proofs.in_value.right_at.Goals as goal

pub returns-in-0 : goal.returns-in-0
returns-in-0 c = right_last c.args.left c.args.d c.in-0.is c.is_one.ensures

pub returns-in-1-to-3 : goal.returns-in-1-to-3
returns-in-1-to-3 c =
    let d = c.args.d in
    let f : SFits w64 d.amount = search rules in
    right_near c.args.left d (omega (arith, c.in-1-to-3)) (λ z. omega (arith, c.in-1-to-3)) (rw (to_z-of_z w64 d.amount f) at c.amount_is.ensures)

pub returns-in_default : goal.returns-in_default
returns-in_default c = right_far c.args.left c.args.d (omega (arith, c.in_default))
