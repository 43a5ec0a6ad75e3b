use borrow.Author.Rules.{rules}
use Rattle.steps.proofs.Laws.Values.{character_none, character_reference, character_return, character_blank, character_out, character_in}
use Rattle.heads.proofs.values.odd_in_value_end.Goals as goal

pub returns-then-text-at : goal.returns-then-text-at
returns-then-text-at c = search (character_none, rules)

pub returns-then-b-eq38 : goal.returns-then-b-eq38
returns-then-b-eq38 c = search (character_reference, rules)

pub returns-then-b-eq13 : goal.returns-then-b-eq13
returns-then-b-eq13 c = search (character_return, rules)

pub returns-then-is_blank : goal.returns-then-is_blank
returns-then-is_blank c = search (character_blank, rules)

pub returns-then-b-q : goal.returns-then-b-q
returns-then-b-q c = search (character_out, rules)

pub returns : goal.returns
returns c = search (character_in, rules)
