use Rattle.gifti_opening.proofs.Laws.Opening.{opening}
use Rattle.gifti_opening.proofs.gifti_opened.Goals as goal

pub returns-then-text-gt-MOST_BYTES : goal.returns-then-text-gt-MOST_BYTES
returns-then-text-gt-MOST_BYTES c = search opening

pub returns-then-checked-eq3 : goal.returns-then-checked-eq3
returns-then-checked-eq3 c = search opening

pub returns : goal.returns
returns c = search opening

pub gifti_checked-checked-requires : goal.gifti_checked-checked-requires
gifti_checked-checked-requires c = search opening

pub of_root-requires : goal.of_root-requires
of_root-requires c = search opening
