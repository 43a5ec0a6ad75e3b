use borrow.Author.Rules.{rules}
use Rattle.steps.proofs.Laws.Steps.{name_none, name_other, name_ahead, name_long, name_some}
use Rattle.letters.proofs.names.name_end.Goals as goal

pub returns-in_err-get : goal.returns-in_err-get
returns-in_err-get c = rw c.from_residual.ensures (search (name_none, rules))

pub returns-then-not-is_name_start : goal.returns-then-not-is_name_start
returns-then-not-is_name_start c = search (name_other, rules)

pub overflow_sub-i : goal.overflow_sub-i
overflow_sub-i c = search (name_ahead, rules)

pub returns-then-i-at-gt64 : goal.returns-then-i-at-gt64
returns-then-i-at-gt64 c = search (name_long, rules)

pub returns : goal.returns
returns c = search (name_some, rules)
