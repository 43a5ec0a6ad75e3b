use Rattle.numbers.proofs.Laws.Raised.{raising}
use Rattle.number_values.proofs.power.power_digits.Goals as goal

pub returns-then-run-eq0 : goal.returns-then-run-eq0
returns-then-run-eq0 c = search raising

pub less_places-requires : goal.less_places-requires
less_places-requires c = search raising

pub digits-run-requires : goal.digits-run-requires
digits-run-requires c = search raising

pub word_ends-requires : goal.word_ends-requires
word_ends-requires c = search raising

pub returns-in_err-power : goal.returns-in_err-power
returns-in_err-power c = search raising

pub returns : goal.returns
returns c = search raising
