use Rattle.gifti_arrays.proofs.Laws.Array.{placing}
use Rattle.gifti_arrays.proofs.array.data_of.Goals as goal

pub returns-in-Some : goal.returns-in-Some
returns-in-Some c = search placing

pub returns-in-None : goal.returns-in-None
returns-in-None c = search placing
