use borrow.Author.Rules.{rules}
use Rattle.steps.proofs.Laws.References.{behind, missing}
use Rattle.letters.proofs.characters.reference_end.Goals as goal

pub returns-in-Some : goal.returns-in-Some
returns-in-Some c = search (behind, rules)

pub returns-in-None : goal.returns-in-None
returns-in-None c = search (missing, rules)
