use Rattle.nodes.proofs.Laws.Skip.{leave_stuck, leave_past}
use Rattle.elements.proofs.scan.leave.Goals as goal

pub returns-in_err-contents_end : goal.returns-in_err-contents_end
returns-in_err-contents_end c = rw c.from_residual.ensures (leave_stuck _ _ c.contents_end.ensures c.in_err-contents_end.was)

pub returns : goal.returns
returns c = leave_past _ _ c.contents_end.ensures c.in_ok-contents_end.was c.past_tag.ensures
