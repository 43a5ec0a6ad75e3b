use Rattle.numbered_rows.proofs.Laws.Agree.{kind_is}
use Rattle.vocabulary.proofs.kind_named.Goals as goal

pub returns : goal.returns
returns c = kind_is _ c.named.ensures

pub named-requires : goal.named-requires
named-requires c = search
