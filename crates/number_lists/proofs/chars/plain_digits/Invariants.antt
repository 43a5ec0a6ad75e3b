use Rattle.numbers.specs.Read.{Running}
use Rattle.numbers.specs.declared.Source.TheVariants.{Value}
use Rattle.number_lists.proofs.chars.plain_digits.Given as goal

abbrev pub invariant-loop-k : goal.invariant-loop-k
invariant-loop-k l = Running (Value l.quote) l.text l.most l.before l.at l.n l.k l.i
