use borrow.Author.Rules.{rules}
use Rattle.steps.proofs.Laws.Values.{value_none, value_other, value_some}
use Rattle.heads.proofs.values.value_end.Goals as goal

pub returns-then-text-at : goal.returns-then-text-at
returns-then-text-at c = search (value_none, value_other, value_some, rules)

pub returns-then-not-is_quote : goal.returns-then-not-is_quote
returns-then-not-is_quote c = search (value_none, value_other, value_some, rules)

pub returns : goal.returns
returns c = search (value_some, rules)
