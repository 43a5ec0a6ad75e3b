use Rattle.std.proofs.Common.{ap, ◌∙◌}
use Rattle.std.specs.Option.{is_some}
use Rattle.forms.proofs.Laws.Forms.{listed_told}
use Rattle.forms.proofs.is_dimension_list.Goals as goal

pub returns : goal.returns
returns c = c.is_some.ensures ∙ ap is_some c.dimension_list.ensures ∙ listed_told _
