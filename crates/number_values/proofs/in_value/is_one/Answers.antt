use Rattle.numbers.proofs.Laws.InValue.{one_few, one_value, not_one}
use borrow.Author.Rules.{rules}
use mir.Syntax.{w64}
use mir.Val.{SFits}
use mir.ValLaws.{to_z-of_z}
use Rattle.number_values.proofs.in_value.is_one.Goals as goal

pub ten_to-requires : goal.ten_to-requires
ten_to-requires c =
    let d = c.args.d in
    let f : SFits w64 d.power = search rules in
    one_few d (rw (to_z-of_z w64 d.power f) at c.places_of.ensures) c.in-Some.is

pub returns-in-Some : goal.returns-in-Some
returns-in-Some c =
    let d = c.args.d in
    let f : SFits w64 d.power = search rules in
    let g : SFits w64 d.amount = search rules in
    one_value d (rw (to_z-of_z w64 d.power f) at c.places_of.ensures)
    c.in-Some.is c.ten_to.ensures
    (rw (to_z-of_z w64 d.amount g) at c.amount_is.ensures)

pub returns-in-None : goal.returns-in-None
returns-in-None c =
    let d = c.args.d in
    let f : SFits w64 d.power = search rules in
    not_one d (rw (to_z-of_z w64 d.power f) at c.places_of.ensures) c.in-None.is (search rules)
