use Rattle.label_reader.proofs.Laws.Names.{taking_label}
use Rattle.label_reader.proofs.names.label_name_number.Goals as goal

pub label_place-said-requires : goal.label_place-said-requires
label_place-said-requires c = search taking_label

pub returns : goal.returns
returns c = search taking_label
