use borrow.Author.Rules.{rules}
use Rattle.steps.proofs.Laws.Comments.{remark_none, remark_other, remark_last, remark_two, remark_dashed}
use Rattle.heads.proofs.comments.odd_remark_end.Goals as goal

pub returns-in_err-get : goal.returns-in_err-get
returns-in_err-get c = rw c.from_residual.ensures (search (remark_none, rules))

pub returns-then-branch-ne45 : goal.returns-then-branch-ne45
returns-then-branch-ne45 c = search (remark_other, rules)

pub returns-in_err-get-2 : goal.returns-in_err-get-2
returns-in_err-get-2 c = rw c.from_residual-in_err-get-2.ensures (search (remark_last, rules))

pub returns-then-branch-eq45 : goal.returns-then-branch-eq45
returns-then-branch-eq45 c = search (remark_two, rules)

pub returns : goal.returns
returns c = search (remark_dashed, rules)
