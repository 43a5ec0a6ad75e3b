use Rattle.models.proofs.Laws.Judged.{choosing}
use Rattle.judging.proofs.judge.first_of.Goals as goal

pub returns-then-a-eq0 : goal.returns-then-a-eq0
returns-then-a-eq0 c = search choosing

pub returns-then-b-eq0 : goal.returns-then-b-eq0
returns-then-b-eq0 c = search choosing

pub returns-then-a-b : goal.returns-then-a-b
returns-then-a-b c = search choosing

pub returns-else-a-b : goal.returns-else-a-b
returns-else-a-b c = search choosing
