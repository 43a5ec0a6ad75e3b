use Rattle.std.proofs.Common.{rules}
use Rattle.flat.proofs.Laws.Flat.{told_short, told_row}
use Rattle.flat.proofs.slices.tell_row.Goals as goal

pub returns-then-slice-row : goal.returns-then-slice-row
returns-then-slice-row c = search (told_short, rules)

pub returns : goal.returns
returns c = search (told_row, rules)
