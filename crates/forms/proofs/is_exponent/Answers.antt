use Rattle.std.proofs.Common.{ap, ◌∙◌}
use Rattle.std.specs.Option.{is_some}
use Rattle.forms.proofs.Laws.Forms.{exponent_told}
use Rattle.forms.proofs.is_exponent.Goals as goal

pub returns : goal.returns
returns c = c.is_some.ensures ∙ ap is_some c.exponent_value.ensures ∙ exponent_told _ _
