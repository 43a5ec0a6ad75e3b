use Rattle.inside.proofs.Laws.Treads.{behind_open, behind_bare, behind_none}
use Rattle.inside.proofs.ways.behind_tag.Goals as goal

pub returns-in-Some-Open : goal.returns-in-Some-Open
returns-in-Some-Open c = behind_open _ _ c.tag_end.ensures c.in-Some-Open.is c.in-Some-Open.field-0-is

pub returns-in-Some-Bare : goal.returns-in-Some-Bare
returns-in-Some-Bare c = behind_bare _ _ c.tag_end.ensures c.in-Some-Bare.is c.in-Some-Bare.field-0-is

pub returns-in-None : goal.returns-in-None
returns-in-None c = behind_none _ _ c.tag_end.ensures c.in-None.is
