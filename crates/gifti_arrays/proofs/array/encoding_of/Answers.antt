use Rattle.gifti_arrays.proofs.Laws.Array.{encoding}
use Rattle.gifti_arrays.proofs.array.encoding_of.Goals as goal

pub returns-then-attribute_is-2 : goal.returns-then-attribute_is-2
returns-then-attribute_is-2 c = search encoding

pub returns-then-attribute_is : goal.returns-then-attribute_is
returns-then-attribute_is c = search encoding

pub returns : goal.returns
returns c = search encoding
