use Rattle.numbers.proofs.Laws.Parts.{finding}
use Rattle.number_values.proofs.short_part.Goals as goal

pub digits-run-requires : goal.digits-run-requires
digits-run-requires c = search finding

pub returns-then-run-eq0 : goal.returns-then-run-eq0
returns-then-run-eq0 c = search finding

pub returns-in-None : goal.returns-in-None
returns-in-None c = search finding

pub returns-in-Some : goal.returns-in-Some
returns-in-Some c = search finding

pub returns-in-Some-2 : goal.returns-in-Some-2
returns-in-Some-2 c = search finding
