use borrow.Author.Rules.{rules}
use Rattle.steps.proofs.Laws.Comments.{comment_open, comment_closes, comment_stuck, comment_more, comment_less}
use Rattle.heads.proofs.comments.comment_rest_end.Goals as goal

pub returns-then-dashes_at : goal.returns-then-dashes_at
returns-then-dashes_at c = search (comment_closes, rules)

pub loop-i-smaller : goal.loop-i-smaller
loop-i-smaller c = search (comment_less, rules)

pub loop-i-preserved : goal.loop-i-preserved
loop-i-preserved c = search (comment_more, rules)

pub returns-in_err-i : goal.returns-in_err-i
returns-in_err-i c = rw c.from_residual.ensures (search (comment_stuck, rules))

pub returns : goal.returns
returns c = search (comment_open, rules)
