use Rattle.numbers.specs.Read.{Running}
use Rattle.number_lists.proofs.chars.digits.Given as goal

abbrev pub invariant-loop-k : goal.invariant-loop-k
invariant-loop-k l = Running l.source l.text l.most l.before l.at l.n l.k l.i
