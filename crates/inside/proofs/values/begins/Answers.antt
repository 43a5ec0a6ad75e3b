use Rattle.nodes.proofs.Laws.Fronts.{front_begins}
use Rattle.inside.proofs.values.begins.Goals as goal

pub returns : goal.returns
returns c = front_begins _ _ _ c.quote_at.ensures c.behind_quote.ensures c.past_word.ensures
