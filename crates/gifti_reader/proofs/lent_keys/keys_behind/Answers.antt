use Rattle.gifti_reader.proofs.Laws.Keys.{behind}
use Rattle.gifti_reader.proofs.lent_keys.keys_behind.Goals as goal

pub returns-then-n-ne0 : goal.returns-then-n-ne0
returns-then-n-ne0 c = search behind

pub number_of-n-requires : goal.number_of-n-requires
number_of-n-requires c = search behind

pub keys_passed-requires : goal.keys_passed-requires
keys_passed-requires c = search behind

pub shape_of-keys : goal.shape_of-keys
shape_of-keys c = search behind

pub returns : goal.returns
returns c = search behind
