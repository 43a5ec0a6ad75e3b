use Rattle.numbered_rows.proofs.Laws.Agree.{structure_is}
use Rattle.vocabulary.proofs.structure_named.Goals as goal

pub returns : goal.returns
returns c = structure_is _ c.named.ensures

pub named-requires : goal.named-requires
named-requires c = search
