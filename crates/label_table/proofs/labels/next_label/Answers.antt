use Rattle.label_table.proofs.Laws.Labels.{stepping}
use Rattle.label_table.proofs.labels.next_label.Goals as goal

pub returns : goal.returns
returns c = search stepping

pub next_child-requires : goal.next_child-requires
next_child-requires c = search stepping

pub label_from-requires : goal.label_from-requires
label_from-requires c = search stepping
