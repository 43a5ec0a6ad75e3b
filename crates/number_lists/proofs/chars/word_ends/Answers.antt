use Rattle.numbers.proofs.Laws.Read.{choosing, ends_end}
use Rattle.number_lists.proofs.chars.word_ends.Goals as goal

pub returns-in-Some : goal.returns-in-Some
returns-in-Some c = search choosing

pub returns-in-None : goal.returns-in-None
returns-in-None c = ends_end _ _ _ c.char_at.ensures c.in-None.is
