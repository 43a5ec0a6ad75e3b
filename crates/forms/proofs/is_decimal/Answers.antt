use Rattle.std.proofs.Common.{ap, ◌∙◌}
use Rattle.std.specs.Option.{is_some}
use Rattle.forms.proofs.Laws.Forms.{decimal_told}
use Rattle.forms.proofs.is_decimal.Goals as goal

pub returns : goal.returns
returns c = c.is_some.ensures ∙ ap is_some c.decimal_value.ensures ∙ decimal_told _
