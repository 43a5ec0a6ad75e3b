use Rattle.gifti_reader.proofs.Laws.Keys.{opening}
use Rattle.gifti_reader.proofs.lent_keys.gifti_keys.Goals as goal

pub returns-then-opened-ne0 : goal.returns-then-opened-ne0
returns-then-opened-ne0 c = search opening

pub keys_behind-requires : goal.keys_behind-requires
keys_behind-requires c = search opening

pub gifti_opened-opened-requires : goal.gifti_opened-opened-requires
gifti_opened-opened-requires c = search opening

pub shape_of-keys : goal.shape_of-keys
shape_of-keys c = search opening

pub returns : goal.returns
returns c = search opening
