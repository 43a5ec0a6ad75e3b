use Rattle.schema.proofs.Laws.Keys.{naming}
use Rattle.values.proofs.attributes.name_listed.Goals as goal

pub returns : goal.returns
returns c = search naming
