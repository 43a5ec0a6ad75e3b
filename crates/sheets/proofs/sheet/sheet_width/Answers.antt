use Rattle.records.proofs.Laws.Packing.{measuring}
use Rattle.sheets.proofs.sheet.sheet_width.Goals as goal

pub returns-then-sheet-lt4 : goal.returns-then-sheet-lt4
returns-then-sheet-lt4 c = search measuring

pub returns-then-width-eq0 : goal.returns-then-width-eq0
returns-then-width-eq0 c = search measuring

pub returns-then-not-good_count : goal.returns-then-not-good_count
returns-then-not-good_count c = search measuring

pub overflow_mul-width : goal.overflow_mul-width
overflow_mul-width c = search measuring

pub overflow_add-width : goal.overflow_add-width
overflow_add-width c = search measuring

pub returns-then-sheet-width : goal.returns-then-sheet-width
returns-then-sheet-width c = search measuring

pub returns : goal.returns
returns c = search measuring
