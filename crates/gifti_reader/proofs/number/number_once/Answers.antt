use borrow.Author.Rules.{rules}
use borrow.Author.Tests.{not-true, not-false}
use Rattle.gifti_reader.proofs.Laws.Number.{table_here, said_so, once_nine, once_eighteen, once_thirty, once_unknown, once_none}
use Rattle.gifti_reader.proofs.number.number_once.Goals as goal

pub searched-told-requires : goal.searched-told-requires
searched-told-requires c = search (table_here, rules)

pub returns-then-told-attribute_number : goal.returns-then-told-attribute_number
returns-then-told-attribute_number c =
    let said = said_so c.requires.file c.attribute_number.ensures in
    once_nine c.args.array c.requires.table_at c.searched-told.ensures said c.if-told-attribute_number.true

pub returns-then-told-array : goal.returns-then-told-array
returns-then-told-array c =
    let said = said_so c.requires.file c.attribute_number.ensures in
    once_eighteen c.args.array c.requires.table_at c.searched-told.ensures said
    c.if-told-attribute_number.false c.if-told-array.true

pub returns-then-not-told : goal.returns-then-not-told
returns-then-not-told c =
    let said = said_so c.requires.file c.attribute_number.ensures in
    once_thirty c.args.array c.requires.table_at c.searched-told.ensures said
    c.if-told-attribute_number.false c.if-told-array.false (not-true _ c.if-not-told.true)

pub returns-then-told : goal.returns-then-told
returns-then-told c =
    let said = said_so c.requires.file c.attribute_number.ensures in
    once_unknown c.args.array c.requires.table_at
    c.searched-told.ensures said
    c.if-told-attribute_number.false c.if-told-array.false
    (not-false _ c.if-not-told.false) c.if-told.true

pub returns : goal.returns
returns c =
    let said = said_so c.requires.file c.attribute_number.ensures in
    once_none c.args.array c.requires.table_at
    c.searched-told.ensures said
    c.if-told-attribute_number.false c.if-told-array.false
    (not-false _ c.if-not-told.false) c.if-told.false
