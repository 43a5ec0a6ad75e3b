use Rattle.std.proofs.Common.{ap, ◌∙◌}
use Rattle.std.specs.Option.{is_some}
use Rattle.forms.proofs.Laws.Forms.{three_told}
use Rattle.forms.proofs.are_lengths.Goals as goal

pub returns : goal.returns
returns c = c.is_some.ensures ∙ ap is_some c.three_lengths.ensures ∙ three_told _ _ _ _
