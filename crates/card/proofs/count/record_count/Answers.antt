use Rattle.card.proofs.Laws.Count.{stretches_done, stretches_on}
use Rattle.card.proofs.count.record_count.Goals as goal

pub loop-round-preserved : goal.loop-round-preserved
loop-round-preserved c = search stretches_on

pub returns : goal.returns
returns c = search stretches_done
