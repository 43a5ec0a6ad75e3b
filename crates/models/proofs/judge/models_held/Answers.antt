use Rattle.models.proofs.Laws.Judged.{holding}
use Rattle.models.proofs.judge.models_held.Goals as goal

pub returns-then-i-lt3 : goal.returns-then-i-lt3
returns-then-i-lt3 c = search holding

pub returns : goal.returns
returns c = search holding
