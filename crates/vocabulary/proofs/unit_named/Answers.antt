use Rattle.numbered_rows.proofs.Laws.Agree.{unit_is}
use Rattle.vocabulary.proofs.unit_named.Goals as goal

pub returns : goal.returns
returns c = unit_is _ c.named.ensures

pub named-requires : goal.named-requires
named-requires c = search
