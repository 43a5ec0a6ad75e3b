use Rattle.numbered_rows.proofs.Laws.Agree.{lending}
use Rattle.vocabulary.proofs.asked.Goals as goal

pub numbers-table-requires : goal.numbers-table-requires
numbers-table-requires c = search lending

pub letters-letters-requires : goal.letters-letters-requires
letters-letters-requires c = search lending

pub slice_bounds-check-end : goal.slice_bounds-check-end
slice_bounds-check-end c = search lending

pub slice_bounds-check-end-then-conditions : goal.slice_bounds-check-end-then-conditions
slice_bounds-check-end-then-conditions c = search lending

pub check-requires : goal.check-requires
check-requires c = search lending

pub returns-then-conditions : goal.returns-then-conditions
returns-then-conditions c = search lending

pub slice_bounds-word_number-end : goal.slice_bounds-word_number-end
slice_bounds-word_number-end c = search lending

pub slice_bounds-word_number-end-2 : goal.slice_bounds-word_number-end-2
slice_bounds-word_number-end-2 c = search lending

pub word_number-requires : goal.word_number-requires
word_number-requires c = search lending

pub returns : goal.returns
returns c = search lending
