use Rattle.all_names.proofs.Laws.Walk.{filling, fill_start}
use Rattle.all_names.proofs.put_names.Goals as goal

pub loop-kid-init : goal.loop-kid-init
loop-kid-init c = fill_start c.first_child-kid.ensures c.requires

pub put_name-requires : goal.put_name-requires
put_name-requires c = search filling

pub loop-kid-smaller-then-name_is : goal.loop-kid-smaller-then-name_is
loop-kid-smaller-then-name_is c = search filling

pub loop-kid-preserved-then-name_is : goal.loop-kid-preserved-then-name_is
loop-kid-preserved-then-name_is c = search filling

pub loop-kid-smaller : goal.loop-kid-smaller
loop-kid-smaller c = search filling

pub loop-kid-preserved : goal.loop-kid-preserved
loop-kid-preserved c = search filling

pub returns-in-None : goal.returns-in-None
returns-in-None c = search filling

pub enum_known-kid : goal.enum_known-kid
enum_known-kid c = search filling

pub next_child-kid-requires : goal.next_child-kid-requires
next_child-kid-requires c = search filling

pub name_is-requires : goal.name_is-requires
name_is-requires c = search filling

pub overflow_add-n : goal.overflow_add-n
overflow_add-n c = search filling

pub enum_told-1 : goal.enum_told-1
enum_told-1 c = search filling

pub shape_of-places-in-None : goal.shape_of-places-in-None
shape_of-places-in-None c = search filling
