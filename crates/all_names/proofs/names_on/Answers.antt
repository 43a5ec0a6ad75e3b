use borrow.Author.Rules.{rules}
use Rattle.all_names.proofs.Laws.Walk.{onMap, on_short}
use Rattle.all_names.proofs.names_on.Goals as goal

pub child_named-requires : goal.child_named-requires
child_named-requires c = search onMap

pub enum_told-1 : goal.enum_told-1
enum_told-1 c = search onMap

pub returns-then-places-count : goal.returns-then-places-count
returns-then-places-count c = search (on_short, rules)

pub put_names-requires : goal.put_names-requires
put_names-requires c = search onMap

pub enum_told-in-None : goal.enum_told-in-None
enum_told-in-None c = search onMap

pub shape_of-places : goal.shape_of-places
shape_of-places c = search onMap

pub returns-else-places-count : goal.returns-else-places-count
returns-else-places-count c = search onMap

pub returns-in-None : goal.returns-in-None
returns-in-None c = search onMap
