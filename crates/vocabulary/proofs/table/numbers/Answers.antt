use mathlib.Core.Path.{refl}
use Rattle.numbered_rows.specs.Table.{table}
use Rattle.vocabulary.proofs.table.numbers.Goals as goal

pub returns : goal.returns
unfolding table
returns c = refl
