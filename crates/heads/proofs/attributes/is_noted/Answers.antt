use borrow.Author.Rules.{rules}
use Rattle.steps.proofs.Laws.Noted.{noting_end, noting_hit, noting_miss}
use Rattle.heads.proofs.attributes.is_noted.Goals as goal

pub returns-then-equal : goal.returns-then-equal
returns-then-equal c = search (noting_hit, rules)

pub loop-k-preserved : goal.loop-k-preserved
loop-k-preserved c = search (noting_miss, rules)

pub returns : goal.returns
returns c = search (noting_end, rules)
