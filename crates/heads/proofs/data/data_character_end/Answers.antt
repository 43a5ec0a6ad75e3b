use Rattle.steps.proofs.Laws.Data.{data_characters}
use Rattle.heads.proofs.data.data_character_end.Goals as goal

pub returns-in_err-get : goal.returns-in_err-get
returns-in_err-get c = rw c.from_residual.ensures (search data_characters)

pub returns-then-branch-eq13 : goal.returns-then-branch-eq13
returns-then-branch-eq13 c = search data_characters

pub returns : goal.returns
returns c = search data_characters
