use Rattle.gifti_arrays.proofs.Laws.Array.{array_so}
use Rattle.gifti_arrays.proofs.array.array_told.Goals as goal

pub returns : goal.returns
returns c = array_so c.noted-note.ensures c.count_keys-counted.ensures
