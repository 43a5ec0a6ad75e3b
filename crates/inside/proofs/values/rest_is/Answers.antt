use Rattle.nodes.proofs.Laws.Fronts.{rest_other, rest_ends}
use Rattle.inside.proofs.values.rest_is.Goals as goal

pub returns-in-Some : goal.returns-in-Some
returns-in-Some c = rest_ends _ _ _ _ c.past_word.ensures c.in-Some.is c.decoded.ensures c.is_none.ensures

pub returns-in-None : goal.returns-in-None
returns-in-None c = rest_other _ _ _ _ c.past_word.ensures c.in-None.is
