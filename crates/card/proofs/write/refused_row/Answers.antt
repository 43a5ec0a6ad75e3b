use Rattle.card.proofs.Laws.Write.{two_words}
use Rattle.card.proofs.write.refused_row.Goals as goal

pub returns : goal.returns
returns c = search two_words
