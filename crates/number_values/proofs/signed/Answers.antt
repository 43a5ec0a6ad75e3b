use Rattle.numbers.proofs.Laws.Signed.{signed_minus, signed_plus}
use Rattle.number_values.proofs.signed.Goals as goal

pub returns-then-negative : goal.returns-then-negative
returns-then-negative c = signed_minus _ c.requires c.if-negative.true

pub returns-else-negative : goal.returns-else-negative
returns-else-negative c = signed_plus _ c.requires c.if-negative.false
