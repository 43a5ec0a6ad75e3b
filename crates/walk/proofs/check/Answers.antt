use Rattle.schema.proofs.Laws.Checked.{checking}
use Rattle.walk.proofs.check.Goals as goal

pub wide-k-requires : goal.wide-k-requires
wide-k-requires c = search checking

pub well_formed-requires : goal.well_formed-requires
well_formed-requires c = search checking

pub of_document-requires : goal.of_document-requires
of_document-requires c = search checking

pub returns-then-well_formed : goal.returns-then-well_formed
returns-then-well_formed c = search checking

pub returns : goal.returns
returns c = search checking
