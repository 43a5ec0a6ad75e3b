use borrow.Author.Rules.{rules}
use Rattle.steps.proofs.Laws.Values.{character_none, character_plain}
use Rattle.heads.proofs.values.value_character_end.Goals as goal

pub returns-then-text-at : goal.returns-then-text-at
returns-then-text-at c = search (character_none, rules)

pub returns-then-is_plain_in : goal.returns-then-is_plain_in
returns-then-is_plain_in c = search (character_plain, rules)
