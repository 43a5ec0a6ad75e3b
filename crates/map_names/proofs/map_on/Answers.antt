use Rattle.map_names.proofs.Laws.Treads.{first_map}
use Rattle.map_names.proofs.map_on.Goals as goal

pub loop-kid-init : goal.loop-kid-init
loop-kid-init c = search first_map

pub returns-then-map_lists : goal.returns-then-map_lists
returns-then-map_lists c = search first_map

pub loop-kid-smaller : goal.loop-kid-smaller
loop-kid-smaller c = search first_map

pub loop-kid-preserved : goal.loop-kid-preserved
loop-kid-preserved c = search first_map

pub returns-in-None : goal.returns-in-None
returns-in-None c = search first_map

pub first_child-kid-requires : goal.first_child-kid-requires
first_child-kid-requires c = search first_map

pub enum_known-kid : goal.enum_known-kid
enum_known-kid c = search first_map

pub map_lists-requires : goal.map_lists-requires
map_lists-requires c = search first_map

pub next_child-kid-requires : goal.next_child-kid-requires
next_child-kid-requires c = search first_map

pub enum_told-1 : goal.enum_told-1
enum_told-1 c = search first_map
