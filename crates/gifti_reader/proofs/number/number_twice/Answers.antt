use borrow.Author.Rules.{rules}
use Rattle.gifti_reader.proofs.Laws.Number.{nothing_asked, said_so, twice_nine, twice_other}
use Rattle.gifti_reader.proofs.number.number_twice.Goals as goal

pub arrays_told-told-requires : goal.arrays_told-told-requires
arrays_told-told-requires c = search (nothing_asked, rules)

pub returns-then-told-attribute_number : goal.returns-then-told-attribute_number
returns-then-told-attribute_number c =
    twice_nine c.arrays_told-told.ensures
    (said_so c.requires c.attribute_number.ensures) c.if-told-attribute_number.true

pub returns : goal.returns
returns c =
    twice_other c.arrays_told-told.ensures
    (said_so c.requires c.attribute_number.ensures) c.if-told-attribute_number.false
