use Rattle.map_names.proofs.Laws.Treads.{from_root}
use Rattle.map_names.proofs.map_there.Goals as goal

pub returns-in-None : goal.returns-in-None
returns-in-None c = search from_root

pub root_of-requires : goal.root_of-requires
root_of-requires c = search from_root

pub enum_known-root : goal.enum_known-root
enum_known-root c = search from_root

pub child_named-requires : goal.child_named-requires
child_named-requires c = search from_root

pub enum_known-m : goal.enum_known-m
enum_known-m c = search from_root

pub map_on-requires : goal.map_on-requires
map_on-requires c = search from_root

pub enum_told-1 : goal.enum_told-1
enum_told-1 c = search from_root

pub enum_told-in-None : goal.enum_told-in-None
enum_told-in-None c = search from_root

pub returns-in-Some-child_named : goal.returns-in-Some-child_named
returns-in-Some-child_named c = search from_root

pub returns-in-None-child_named : goal.returns-in-None-child_named
returns-in-None-child_named c = search from_root
