use Rattle.keys.proofs.Laws.Colours.{colouring, colour_seen}
use Rattle.keys.proofs.is_colour.Goals as goal

pub returns-in-Some : goal.returns-in-Some
returns-in-Some c = search colouring

pub returns-in-None : goal.returns-in-None
returns-in-None c = search colouring

pub is_zero_or_one-requires : goal.is_zero_or_one-requires
is_zero_or_one-requires c = search colouring

pub returns-then-is_zero_or_one : goal.returns-then-is_zero_or_one
returns-then-is_zero_or_one c = search colour_seen

pub decimal_value-requires : goal.decimal_value-requires
decimal_value-requires c = search colouring

pub enum_known-d : goal.enum_known-d
enum_known-d c = search colouring

pub in_shade-requires : goal.in_shade-requires
in_shade-requires c = search colouring

pub enum_told-1 : goal.enum_told-1
enum_told-1 c = search colouring
