use Rattle.std.proofs.Common.{◌-◌}
use Rattle.numbers.proofs.Laws.Sixteen.{Checking}
use Rattle.number_values.proofs.decimals.sixteen_ok.Given as goal

abbrev pub invariant-loop-k : goal.invariant-loop-k
invariant-loop-k l = Checking l.text l.at (16 - l.k) l.i
