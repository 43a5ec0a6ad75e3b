use Rattle.label_reader.proofs.Laws.Names.{taking_label}
use Rattle.label_reader.proofs.names.label_name.Goals as goal

pub label_place-said-requires : goal.label_place-said-requires
label_place-said-requires c = search taking_label

pub overflow_add-to : goal.overflow_add-to
overflow_add-to c = search taking_label

pub slice_bounds-result-count : goal.slice_bounds-result-count
slice_bounds-result-count c = search taking_label

pub slice_bounds-result-start : goal.slice_bounds-result-start
slice_bounds-result-start c = search taking_label

pub slice_bounds-result-end : goal.slice_bounds-result-end
slice_bounds-result-end c = search taking_label

pub returns : goal.returns
returns c = search taking_label
