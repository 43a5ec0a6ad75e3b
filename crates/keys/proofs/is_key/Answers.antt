use Rattle.std.proofs.Common.{ap, ◌∙◌}
use Rattle.std.specs.Option.{is_some}
use Rattle.keys.proofs.Laws.Keys.{key_is_some}
use Rattle.keys.proofs.is_key.Goals as goal

pub returns : goal.returns
returns c = c.is_some.ensures ∙ ap is_some c.key_value.ensures ∙ key_is_some _
