use Rattle.schema.proofs.Laws.Lines.{of_child}
use Rattle.lookup.proofs.lines.child_kind.Goals as goal

pub returns-then-to-line : goal.returns-then-to-line
returns-then-to-line c = search of_child

pub out_of_turn-requires : goal.out_of_turn-requires
out_of_turn-requires c = search of_child

pub line_kind-requires : goal.line_kind-requires
line_kind-requires c = search of_child

pub returns : goal.returns
returns c = search of_child
