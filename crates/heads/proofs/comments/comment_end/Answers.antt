use borrow.Author.Rules.{rules}
use Rattle.steps.proofs.Laws.Comments.{comment_none, comment_some}
use Rattle.heads.proofs.comments.comment_end.Goals as goal

pub returns-in_err-from : goal.returns-in_err-from
returns-in_err-from c = rw c.from_residual.ensures (search (comment_none, rules))

pub returns : goal.returns
returns c = comment_some _ _ c.mark_end.ensures c.in_ok-from.was c.comment_rest_end.ensures
