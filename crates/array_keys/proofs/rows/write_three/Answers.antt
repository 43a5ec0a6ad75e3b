use Rattle.array_keys.proofs.Laws.Rows.{threes, three_wrote}
use Rattle.array_keys.proofs.rows.write_three.Goals as goal

pub returns : goal.returns
returns c = search three_wrote

pub overflow_mul-a : goal.overflow_mul-a
overflow_mul-a c = search threes

pub overflow_add-a : goal.overflow_add-a
overflow_add-a c = search threes

pub four_key-requires : goal.four_key-requires
four_key-requires c = search threes

pub offset_bounds-keys-n : goal.offset_bounds-keys-n
offset_bounds-keys-n c = search threes

pub bounds-keys-n : goal.bounds-keys-n
bounds-keys-n c = search threes

pub overflow_mul-b : goal.overflow_mul-b
overflow_mul-b c = search threes

pub overflow_add-b : goal.overflow_add-b
overflow_add-b c = search threes

pub four_key-requires-2 : goal.four_key-requires-2
four_key-requires-2 c = search threes

pub overflow_add-keys : goal.overflow_add-keys
overflow_add-keys c = search threes

pub offset_bounds-keys-n-2 : goal.offset_bounds-keys-n-2
offset_bounds-keys-n-2 c = search threes

pub bounds-keys-n-2 : goal.bounds-keys-n-2
bounds-keys-n-2 c = search threes

pub overflow_mul-c : goal.overflow_mul-c
overflow_mul-c c = search threes

pub overflow_add-c : goal.overflow_add-c
overflow_add-c c = search threes

pub four_key-requires-3 : goal.four_key-requires-3
four_key-requires-3 c = search threes

pub overflow_add-n : goal.overflow_add-n
overflow_add-n c = search threes

pub offset_bounds-keys-n-3 : goal.offset_bounds-keys-n-3
offset_bounds-keys-n-3 c = search threes

pub bounds-keys-n-3 : goal.bounds-keys-n-3
bounds-keys-n-3 c = search threes

pub shape_of-keys : goal.shape_of-keys
shape_of-keys c = search threes
