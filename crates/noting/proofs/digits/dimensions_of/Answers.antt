use Rattle.maps.proofs.Laws.Digits.{digits_of_map}
use Rattle.noting.proofs.digits.dimensions_of.Goals as goal

pub returns-in-Some : goal.returns-in-Some
returns-in-Some c = search digits_of_map

pub returns-in-None : goal.returns-in-None
returns-in-None c = search digits_of_map

pub attribute-requires : goal.attribute-requires
attribute-requires c = search digits_of_map

pub enum_known-v : goal.enum_known-v
enum_known-v c = search digits_of_map

pub digits_at-requires : goal.digits_at-requires
digits_at-requires c = search digits_of_map

pub enum_told-1 : goal.enum_told-1
enum_told-1 c = search digits_of_map
