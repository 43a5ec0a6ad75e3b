use Rattle.nodes.proofs.Laws.Children.{next_none, next_on}
use Rattle.elements.proofs.children.next_child.Goals as goal

pub returns-in_err-skip : goal.returns-in_err-skip
returns-in_err-skip c = rw c.from_residual.ensures (next_none _ _ c.skip.ensures c.in_err-skip.was)

pub returns : goal.returns
returns c = next_on _ _ c.skip.ensures c.in_ok-skip.was c.kid_from.ensures
