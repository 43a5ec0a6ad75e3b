use Rattle.std.proofs.Common.{◌∙◌}
use Rattle.numbers.proofs.Laws.Alone.{exponent_signed}
use Rattle.number_values.proofs.exponent_value.Goals as goal

pub returns : goal.returns
returns c = c.signed_value.ensures ∙ exponent_signed _ _
