use Rattle.nodes.specs.Texts.{left}
use Rattle.bench.proofs.Laws.Sum.{Summed}
use Rattle.bench.proofs.bench_sum.Given as goal

abbrev pub invariant-loop-v : goal.invariant-loop-v
invariant-loop-v l = Summed l.text l.at l.sum l.i

abbrev pub decreases-loop-v : goal.decreases-loop-v
decreases-loop-v l = left l.text l.i
