use Rattle.schema.proofs.Laws.Values.{faulting}
use Rattle.values.proofs.value.value_fault.Goals as goal

pub returns-then-not-word_right : goal.returns-then-not-word_right
returns-then-not-word_right c = search faulting

pub returns-then-not-number_right : goal.returns-then-not-number_right
returns-then-not-number_right c = search faulting

pub returns : goal.returns
returns c = search faulting

pub word_right-requires : goal.word_right-requires
word_right-requires c = search faulting

pub number_right-requires : goal.number_right-requires
number_right-requires c = search faulting
