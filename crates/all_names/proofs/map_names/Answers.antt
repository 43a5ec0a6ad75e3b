use Rattle.all_names.proofs.Laws.Placed.{placingAll}
use Rattle.all_names.proofs.map_names.Goals as goal

pub surveyed-s-requires : goal.surveyed-s-requires
surveyed-s-requires c = search placingAll

pub returns-then-n-ne0 : goal.returns-then-n-ne0
returns-then-n-ne0 c = search placingAll

pub map_there-requires : goal.map_there-requires
map_there-requires c = search placingAll

pub enum_known-k : goal.enum_known-k
enum_known-k c = search placingAll

pub length_at-count-requires : goal.length_at-count-requires
length_at-count-requires c = search placingAll

pub names_on-requires : goal.names_on-requires
names_on-requires c = search placingAll

pub enum_told-1 : goal.enum_told-1
enum_told-1 c = search placingAll

pub shape_of-places : goal.shape_of-places
shape_of-places c = search placingAll

pub returns-in-Some : goal.returns-in-Some
returns-in-Some c = search placingAll

pub returns-in-None : goal.returns-in-None
returns-in-None c = search placingAll
