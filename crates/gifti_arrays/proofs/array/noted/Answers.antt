use Rattle.gifti_arrays.proofs.Laws.Array.{noted_so}
use Rattle.gifti_arrays.proofs.array.noted.Goals as goal

pub returns : goal.returns
returns c =
    noted_so c.requires c.data_of.ensures c.encoding_of.ensures
    c.attribute_number.ensures
