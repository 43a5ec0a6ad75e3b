use Rattle.map_names.proofs.Laws.Answered.{answering}
use Rattle.map_names.proofs.place_of.Goals as goal

pub returns-then-number-ne0 : goal.returns-then-number-ne0
returns-then-number-ne0 c = search answering

pub named_there-requires : goal.named_there-requires
named_there-requires c = search answering

pub enum_known-k : goal.enum_known-k
enum_known-k c = search answering

pub written-part-requires : goal.written-part-requires
written-part-requires c = search answering

pub behind_tag-requires : goal.behind_tag-requires
behind_tag-requires c = search answering

pub enum_told-1 : goal.enum_told-1
enum_told-1 c = search answering

pub returns-in-Some : goal.returns-in-Some
returns-in-Some c = search answering

pub returns-in-None : goal.returns-in-None
returns-in-None c = search answering
