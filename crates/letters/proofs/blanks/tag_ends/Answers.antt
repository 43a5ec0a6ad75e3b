use borrow.Author.Rules.{rules}
use Rattle.steps.proofs.Laws.Steps.{ends_none, closing_some}
use Rattle.letters.proofs.blanks.tag_ends.Goals as goal

pub returns-in-Some : goal.returns-in-Some
returns-in-Some c = search (closing_some, rules)

pub returns-in-None : goal.returns-in-None
returns-in-None c = ends_none _ _ _ _ c.blanks_end.ensures (search rules)
