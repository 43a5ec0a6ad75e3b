use Rattle.opening.proofs.Laws.Opening.{opening}
use Rattle.opening.proofs.header.opened.Goals as goal

pub lengths_wrong-requires : goal.lengths_wrong-requires
lengths_wrong-requires c = search opening

pub returns-then-lengths_wrong : goal.returns-then-lengths_wrong
returns-then-lengths_wrong c = search opening

pub returns-then-text-gt-MOST_BYTES : goal.returns-then-text-gt-MOST_BYTES
returns-then-text-gt-MOST_BYTES c = search opening

pub checked-checked-requires : goal.checked-checked-requires
checked-checked-requires c = search opening

pub returns-then-checked-eq3 : goal.returns-then-checked-eq3
returns-then-checked-eq3 c = search opening

pub of_root-requires : goal.of_root-requires
of_root-requires c = search opening

pub returns : goal.returns
returns c = search opening
