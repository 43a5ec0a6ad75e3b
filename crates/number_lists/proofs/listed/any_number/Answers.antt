use Rattle.number_lists.proofs.Laws.Within.{hurrying_on}
use Rattle.number_lists.proofs.listed.any_number.Goals as goal

pub returns-then-ends_plain : goal.returns-then-ends_plain
returns-then-ends_plain c = search hurrying_on

pub number_from-requires : goal.number_from-requires
number_from-requires c = search hurrying_on
