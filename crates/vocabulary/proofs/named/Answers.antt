use mathlib.Core.Path.{refl}
use Rattle.vocabulary.proofs.named.Goals as goal

pub asked-requires : goal.asked-requires
asked-requires c = search

pub returns : goal.returns
returns c = c.asked.ensures.number_is refl
