use Rattle.number_lists.proofs.Laws.Within.{starting_on}
use Rattle.number_lists.proofs.listed.number_at.Goals as goal

pub number_from-requires : goal.number_from-requires
number_from-requires c = search starting_on

pub returns : goal.returns
returns c = search starting_on
