use Rattle.array_keys.proofs.Laws.Rows.{filling}
use Rattle.array_keys.proofs.rows.fill_from.Goals as goal

pub loop-keys-init : goal.loop-keys-init
loop-keys-init c = search filling

pub quick_run-run-requires : goal.quick_run-run-requires
quick_run-run-requires c = search filling

pub shape_of-keys-then-keys-n : goal.shape_of-keys-then-keys-n
shape_of-keys-then-keys-n c = search filling

pub returns-then-keys-n : goal.returns-then-keys-n
returns-then-keys-n c = search filling

pub key_next-requires : goal.key_next-requires
key_next-requires c = search filling

pub enum_known-key : goal.enum_known-key
enum_known-key c = search filling

pub offset_bounds-keys-n : goal.offset_bounds-keys-n
offset_bounds-keys-n c = search filling

pub bounds-keys-n : goal.bounds-keys-n
bounds-keys-n c = search filling

pub overflow_add-n : goal.overflow_add-n
overflow_add-n c = search filling

pub loop-keys-smaller : goal.loop-keys-smaller
loop-keys-smaller c = search filling

pub loop-keys-preserved : goal.loop-keys-preserved
loop-keys-preserved c = search filling

pub enum_known-spare : goal.enum_known-spare
enum_known-spare c = search filling

pub shape_of-keys-in-End : goal.shape_of-keys-in-End
shape_of-keys-in-End c = search filling

pub returns-in-End : goal.returns-in-End
returns-in-End c = search filling
