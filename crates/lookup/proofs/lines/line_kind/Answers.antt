use Rattle.schema.proofs.Laws.Lines.{of_line}
use Rattle.lookup.proofs.lines.line_kind.Goals as goal

pub returns-then-choice-eq0 : goal.returns-then-choice-eq0
returns-then-choice-eq0 c = search of_line

pub line_cell-choice-requires : goal.line_cell-choice-requires
line_cell-choice-requires c = search of_line

pub line_cell-requires : goal.line_cell-requires
line_cell-requires c = search of_line

pub overflow_sub-choice : goal.overflow_sub-choice
overflow_sub-choice c = search of_line

pub overflow_sub-choice-2 : goal.overflow_sub-choice-2
overflow_sub-choice-2 c = search of_line

pub returns : goal.returns
returns c = search of_line
