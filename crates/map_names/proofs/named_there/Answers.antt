use Rattle.map_names.proofs.Laws.Treads.{from_map}
use Rattle.map_names.proofs.named_there.Goals as goal

pub returns-in-Some : goal.returns-in-Some
returns-in-Some c = search from_map

pub returns-in-None : goal.returns-in-None
returns-in-None c = search from_map

pub map_there-requires : goal.map_there-requires
map_there-requires c = search from_map

pub enum_known-k : goal.enum_known-k
enum_known-k c = search from_map

pub name_on-requires : goal.name_on-requires
name_on-requires c = search from_map

pub enum_told-1 : goal.enum_told-1
enum_told-1 c = search from_map
