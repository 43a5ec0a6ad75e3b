use Rattle.numbers.proofs.Laws.Three.{lengths}
use Rattle.number_values.proofs.three_lengths.Goals as goal

pub overflow_add-at : goal.overflow_add-at
overflow_add-at c = search lengths

pub short_part-requires : goal.short_part-requires
short_part-requires c = search lengths

pub enum_known-i : goal.enum_known-i
enum_known-i c = search lengths

pub enum_known-j : goal.enum_known-j
enum_known-j c = search lengths

pub enum_known-k : goal.enum_known-k
enum_known-k c = search lengths

pub returns-in_err-get : goal.returns-in_err-get
returns-in_err-get c = search lengths

pub returns-in_default : goal.returns-in_default
returns-in_default c = search lengths

pub returns-in_default-short_part : goal.returns-in_default-short_part
returns-in_default-short_part c = search lengths

pub returns-in_default-short_part-2 : goal.returns-in_default-short_part-2
returns-in_default-short_part-2 c = search lengths

pub returns : goal.returns
returns c = search lengths
