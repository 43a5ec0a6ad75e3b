use borrow.Author.Rules.{rules}
use Rattle.steps.proofs.Laws.Characters.{character_none, plain_step}
use Rattle.letters.proofs.characters.character_end.Goals as goal

pub returns-then-text-at : goal.returns-then-text-at
returns-then-text-at c = search (character_none, rules)

pub returns-then-is_plain : goal.returns-then-is_plain
returns-then-is_plain c = search (plain_step, rules)
