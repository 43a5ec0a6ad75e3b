use Rattle.numbers.proofs.Laws.Quick.{Counted}
use Rattle.number_lists.proofs.quick.six_digits.Given as goal

abbrev pub invariant-loop-k : goal.invariant-loop-k
invariant-loop-k l = Counted l.text l.at l.n l.k
