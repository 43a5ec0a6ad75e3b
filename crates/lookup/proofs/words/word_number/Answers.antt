use Rattle.schema.proofs.Laws.Words.{numbered}
use Rattle.lookup.proofs.words.word_number.Goals as goal

pub wide-list-requires : goal.wide-list-requires
wide-list-requires c = search numbered

pub form_cell-from-requires : goal.form_cell-from-requires
form_cell-from-requires c = search numbered

pub form_cell-to-requires : goal.form_cell-to-requires
form_cell-to-requires c = search numbered

pub form_cell-front-requires : goal.form_cell-front-requires
form_cell-front-requires c = search numbered

pub word_place-requires : goal.word_place-requires
word_place-requires c = search numbered

pub overflow_sub-result : goal.overflow_sub-result
overflow_sub-result c = search numbered

pub returns : goal.returns
returns c = search numbered
