use Rattle.array_keys.proofs.Laws.Rows.{running}
use Rattle.array_keys.proofs.rows.quick_run.Goals as goal

pub enum_told-1 : goal.enum_told-1
enum_told-1 c = search running

pub quick_keys-requires : goal.quick_keys-requires
quick_keys-requires c = search running

pub quick_keys-requires-in-Little : goal.quick_keys-requires-in-Little
quick_keys-requires-in-Little c = search running

pub shape_of-keys-in-Big : goal.shape_of-keys-in-Big
shape_of-keys-in-Big c = search running

pub returns-in-Big : goal.returns-in-Big
returns-in-Big c = search running

pub shape_of-keys-in-Little : goal.shape_of-keys-in-Little
shape_of-keys-in-Little c = search running

pub returns-in-Little : goal.returns-in-Little
returns-in-Little c = search running
