use Rattle.label_table.proofs.Laws.Labels.{stepping}
use Rattle.label_table.proofs.labels.first_label.Goals as goal

pub returns : goal.returns
returns c = search stepping

pub first_child-requires : goal.first_child-requires
first_child-requires c = search stepping

pub label_from-requires : goal.label_from-requires
label_from-requires c = search stepping
