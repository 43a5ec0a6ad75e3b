use Rattle.nodes.proofs.Laws.Texts.{inside_none, inside_bare, inside_open}
use Rattle.inside.proofs.texts.text_start.Goals as goal

pub returns-in_err-i : goal.returns-in_err-i
returns-in_err-i c = rw c.from_residual.ensures (inside_none _ _ c.tag_end.ensures c.in_err-i.was)

pub returns-in-Open : goal.returns-in-Open
returns-in-Open c = inside_open _ _ c.tag_end.ensures c.in_ok-i.was c.in-Open.is

pub returns-in-Bare : goal.returns-in-Bare
returns-in-Bare c = inside_bare _ _ c.tag_end.ensures c.in_ok-i.was c.in-Bare.is
