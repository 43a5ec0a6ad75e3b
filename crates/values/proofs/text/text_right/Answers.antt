use Rattle.schema.proofs.Laws.Values.{texting}
use Rattle.values.proofs.text.text_right.Goals as goal

pub returns-then-form-eq0 : goal.returns-then-form-eq0
returns-then-form-eq0 c = search texting

pub overflow_sub-form : goal.overflow_sub-form
overflow_sub-form c = search texting

pub are_sixteen-requires : goal.are_sixteen-requires
are_sixteen-requires c = search texting

pub form_cell-requires : goal.form_cell-requires
form_cell-requires c = search texting

pub are_wholes-requires : goal.are_wholes-requires
are_wholes-requires c = search texting

pub keys_by-requires : goal.keys_by-requires
keys_by-requires c = search texting

pub returns-in-1 : goal.returns-in-1
returns-in-1 c = search texting

pub returns-in-2 : goal.returns-in-2
returns-in-2 c = search texting

pub returns-in_default : goal.returns-in_default
returns-in_default c = search texting
