use Rattle.numbers.proofs.Laws.Integers.{limiting}
use Rattle.number_values.proofs.power.within.Goals as goal

pub returns-then-n-gt45 : goal.returns-then-n-gt45
returns-then-n-gt45 c = search limiting

pub returns : goal.returns
returns c = search limiting

pub signed-requires : goal.signed-requires
signed-requires c = search limiting
