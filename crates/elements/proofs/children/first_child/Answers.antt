use Rattle.nodes.proofs.Laws.Children.{first_none, first_bare, first_open}
use Rattle.elements.proofs.children.first_child.Goals as goal

pub returns-in_err-i : goal.returns-in_err-i
returns-in_err-i c = rw c.from_residual.ensures (first_none _ _ c.tag_end.ensures c.in_err-i.was)

pub returns-in-Open : goal.returns-in-Open
returns-in-Open c = first_open _ _ c.tag_end.ensures c.in_ok-i.was c.in-Open.is c.kid_from.ensures

pub returns-in-Bare : goal.returns-in-Bare
returns-in-Bare c = first_bare _ _ c.tag_end.ensures c.in_ok-i.was c.in-Bare.is
