use borrow.Author.Rules.{rules}
use Rattle.steps.proofs.Laws.Values.{value_open, value_closes, value_stuck, value_more, value_less}
use Rattle.heads.proofs.values.value_rest_end.Goals as goal

pub returns-then-text-i : goal.returns-then-text-i
returns-then-text-i c = search (value_closes, rules)

pub loop-i-smaller : goal.loop-i-smaller
loop-i-smaller c = search (value_less, rules)

pub loop-i-preserved : goal.loop-i-preserved
loop-i-preserved c = search (value_more, rules)

pub returns-in-None : goal.returns-in-None
returns-in-None c = search (value_stuck, rules)

pub returns : goal.returns
returns c = search (value_open, rules)
