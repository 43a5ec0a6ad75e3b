use Rattle.std.proofs.Common.{ap, ◌∙◌}
use Rattle.std.specs.Option.{is_some}
use Rattle.forms.proofs.Laws.Forms.{whole_told}
use Rattle.forms.proofs.is_whole.Goals as goal

pub returns : goal.returns
returns c = c.is_some.ensures ∙ ap is_some c.whole_value.ensures ∙ whole_told _ _ _
