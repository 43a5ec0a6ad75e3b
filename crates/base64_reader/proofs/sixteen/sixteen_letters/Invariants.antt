use Rattle.base64_reader.proofs.Laws.Sixteen.{Looking}
use Rattle.base64_reader.proofs.sixteen.sixteen_letters.Given as goal

abbrev pub invariant-loop-k : goal.invariant-loop-k
invariant-loop-k l = Looking l.text l.at l.k l.good
