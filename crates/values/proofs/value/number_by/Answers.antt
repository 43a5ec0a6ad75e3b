use Rattle.schema.proofs.Laws.Values.{forming}
use Rattle.values.proofs.value.number_by.Goals as goal

pub is_dimension_list-requires : goal.is_dimension_list-requires
is_dimension_list-requires c = search forming

pub is_whole-requires : goal.is_whole-requires
is_whole-requires c = search forming

pub is_decimal-requires : goal.is_decimal-requires
is_decimal-requires c = search forming

pub is_exponent-requires : goal.is_exponent-requires
is_exponent-requires c = search forming

pub are_lengths-requires : goal.are_lengths-requires
are_lengths-requires c = search forming

pub label_by-requires : goal.label_by-requires
label_by-requires c = search forming

pub returns-in-2 : goal.returns-in-2
returns-in-2 c = search forming

pub returns-in-3 : goal.returns-in-3
returns-in-3 c = search forming

pub returns-in-4 : goal.returns-in-4
returns-in-4 c = search forming

pub returns-in-5 : goal.returns-in-5
returns-in-5 c = search forming

pub returns-in-6 : goal.returns-in-6
returns-in-6 c = search forming

pub returns-in_default : goal.returns-in_default
returns-in_default c = search forming
