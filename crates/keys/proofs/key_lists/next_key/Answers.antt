use Rattle.keys.proofs.Laws.KeyLists.{key_quick}
use Rattle.keys.proofs.key_lists.next_key.Goals as goal

pub quick_number-quick-requires : goal.quick_number-quick-requires
quick_number-quick-requires c = search key_quick

pub any_key-requires : goal.any_key-requires
any_key-requires c = search key_quick

pub returns-then-quick-eq0 : goal.returns-then-quick-eq0
returns-then-quick-eq0 c = search key_quick

pub overflow_cast-result : goal.overflow_cast-result
overflow_cast-result c = search key_quick

pub overflow_add-result : goal.overflow_add-result
overflow_add-result c = search key_quick

pub returns : goal.returns
returns c = search key_quick
