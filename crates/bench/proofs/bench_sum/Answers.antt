use Rattle.bench.proofs.Laws.Sum.{sumSteps}
use Rattle.bench.proofs.bench_sum.Goals as goal

pub loop-v-smaller : goal.loop-v-smaller
loop-v-smaller c = search sumSteps

pub loop-v-preserved : goal.loop-v-preserved
loop-v-preserved c = search sumSteps

pub returns-in-End : goal.returns-in-End
returns-in-End c = search sumSteps

pub returns-in-Bad : goal.returns-in-Bad
returns-in-Bad c = search sumSteps
