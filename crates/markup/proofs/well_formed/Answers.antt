use Rattle.steps.proofs.Laws.Document.{unrooted, rootless}
use Rattle.markup.proofs.Whole.{ends_there}
use Rattle.markup.proofs.well_formed.Goals as goal

pub returns-in_default : goal.returns-in_default
returns-in_default c = unrooted _ c.root_start.ensures c.in_default.is

pub returns-in_default-whole_end : goal.returns-in_default-whole_end
returns-in_default-whole_end c = rootless _ c.root_start.ensures c.in-Some.is c.whole_end.ensures c.in_default-whole_end.is

pub returns : goal.returns
returns c = rw c.eq.ensures (ends_there _ c.root_start.ensures c.in-Some.is c.whole_end.ensures c.in-Some-whole_end.is _ c.asides_end.ensures)
