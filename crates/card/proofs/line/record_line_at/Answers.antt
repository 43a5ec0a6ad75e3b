use Rattle.card.proofs.Laws.Records.{seek_done, seek_here, seek_later}
use Rattle.card.proofs.line.record_line_at.Goals as goal

pub returns-then-left-reach : goal.returns-then-left-reach
returns-then-left-reach c = search seek_here

pub loop-round-preserved : goal.loop-round-preserved
loop-round-preserved c = search seek_later

pub returns : goal.returns
returns c = search seek_done
