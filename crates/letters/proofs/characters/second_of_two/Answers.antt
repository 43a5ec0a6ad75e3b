use borrow.Author.Rules.{rules}
use Rattle.steps.proofs.Laws.Characters.{two_other, two_none, two_bad, two_good}
use Rattle.letters.proofs.characters.second_of_two.Goals as goal

pub returns-then-not-is_lead2 : goal.returns-then-not-is_lead2
returns-then-not-is_lead2 c = search (two_other, rules)

pub returns-then-text-at : goal.returns-then-text-at
returns-then-text-at c = search (two_none, rules)

pub returns-then-not-is_continuing : goal.returns-then-not-is_continuing
returns-then-not-is_continuing c = search (two_bad, rules)

pub returns : goal.returns
returns c = search (two_good, rules)
