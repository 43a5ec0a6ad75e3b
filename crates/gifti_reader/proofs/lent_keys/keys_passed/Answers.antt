use Rattle.gifti_reader.proofs.Laws.Keys.{passing}
use Rattle.gifti_reader.proofs.lent_keys.keys_passed.Goals as goal

pub keys_at-requires : goal.keys_at-requires
keys_at-requires c = search passing

pub returns-in-Some : goal.returns-in-Some
returns-in-Some c = search passing

pub returns-in-None : goal.returns-in-None
returns-in-None c = search passing

pub child_named-requires : goal.child_named-requires
child_named-requires c = search passing

pub enum_known-k : goal.enum_known-k
enum_known-k c = search passing

pub enum_told-1 : goal.enum_told-1
enum_told-1 c = search passing

pub shape_of-keys : goal.shape_of-keys
shape_of-keys c = search passing
