use Rattle.schema.proofs.Laws.Checked.{rooted}
use Rattle.walk.proofs.of_document.Goals as goal

pub fault-requires : goal.fault-requires
fault-requires c = search rooted
