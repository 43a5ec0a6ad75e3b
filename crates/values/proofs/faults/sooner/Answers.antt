use Rattle.schema.proofs.Laws.Faults.{choosing}
use Rattle.values.proofs.faults.sooner.Goals as goal

pub returns-then-a-eq0 : goal.returns-then-a-eq0
returns-then-a-eq0 c = search choosing

pub returns-then-b-eq0 : goal.returns-then-b-eq0
returns-then-b-eq0 c = search choosing

pub returns-then-b-a : goal.returns-then-b-a
returns-then-b-a c = search choosing

pub returns : goal.returns
returns c = search choosing
