use Rattle.schema.proofs.Laws.Values.{forming}
use Rattle.values.proofs.value.word_right.Goals as goal

pub returns : goal.returns
returns c = search forming

pub returns-then-form_cell-ne1 : goal.returns-then-form_cell-ne1
returns-then-form_cell-ne1 c = search forming
