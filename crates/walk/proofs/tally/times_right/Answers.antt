use Rattle.schema.proofs.Laws.Times.{timing}
use Rattle.walk.proofs.tally.times_right.Goals as goal

pub returns-then-not-stands_so : goal.returns-then-not-stands_so
returns-then-not-stands_so c = search timing

pub loop-i-preserved : goal.loop-i-preserved
loop-i-preserved c = search timing
