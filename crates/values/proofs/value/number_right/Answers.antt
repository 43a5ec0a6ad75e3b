use Rattle.values.proofs.Laws.Numbers.{numbering, right_label}
use Rattle.values.proofs.value.number_right.Goals as goal

pub returns-then-f-gt6 : goal.returns-then-f-gt6
returns-then-f-gt6 c =
    right_label c.args.table.now c.args.letters.now _ c.args.form c.form_cell-f.ensures.0
    c.if-f-gt6.true c.label_by.ensures

pub returns : goal.returns
returns c = search numbering

pub form_cell-f-requires : goal.form_cell-f-requires
form_cell-f-requires c = search numbering

pub label_by-requires : goal.label_by-requires
label_by-requires c = search numbering

pub form_cell-a-requires : goal.form_cell-a-requires
form_cell-a-requires c = search numbering

pub form_cell-b-requires : goal.form_cell-b-requires
form_cell-b-requires c = search numbering

pub form_cell-c-requires : goal.form_cell-c-requires
form_cell-c-requires c = search numbering

pub number_by-requires : goal.number_by-requires
number_by-requires c = search numbering
