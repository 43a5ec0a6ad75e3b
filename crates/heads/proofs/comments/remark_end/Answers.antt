use borrow.Author.Rules.{rules}
use Rattle.steps.proofs.Laws.Comments.{remark_none, remark_plainly}
use Rattle.heads.proofs.comments.remark_end.Goals as goal

pub returns-in_err-b : goal.returns-in_err-b
returns-in_err-b c = rw c.from_residual.ensures (search (remark_none, rules))

pub returns-then-is_plain : goal.returns-then-is_plain
returns-then-is_plain c = search (remark_plainly, rules)
