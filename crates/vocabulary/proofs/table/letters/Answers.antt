use mathlib.Core.Path.{refl}
use Rattle.numbered_rows.specs.Table.{letters}
use Rattle.vocabulary.proofs.table.letters.Goals as goal

pub returns : goal.returns
unfolding letters
returns c = refl
