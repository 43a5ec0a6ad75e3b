use borrow.Author.Rules.{rules}
use Rattle.steps.proofs.Laws.Characters.{character_none, one_good, one_bad, as_two, as_three, as_four}
use Rattle.letters.proofs.characters.wide_character_end.Goals as goal

pub returns-then-text-at : goal.returns-then-text-at
returns-then-text-at c = search (character_none, rules)

pub returns-then-is_lead1 : goal.returns-then-is_lead1
returns-then-is_lead1 c = search (one_good, rules)

pub returns-then-a-le127 : goal.returns-then-a-le127
returns-then-a-le127 c = search (one_bad, rules)

pub returns-then-a-le223 : goal.returns-then-a-le223
returns-then-a-le223 c = search (as_two, rules)

pub returns-then-a-le239 : goal.returns-then-a-le239
returns-then-a-le239 c = search (as_three, rules)

pub returns : goal.returns
returns c = search (as_four, rules)
