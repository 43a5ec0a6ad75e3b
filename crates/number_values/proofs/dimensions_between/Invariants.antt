use Rattle.numbers.proofs.Laws.Lists.{Listing}
use Rattle.numbers.specs.Stream.{left_in}
use Rattle.numbers.specs.declared.Source.TheVariants.{Value}
use Rattle.number_values.proofs.dimensions_between.Given as goal

abbrev pub invariant-loop-d : goal.invariant-loop-d
invariant-loop-d l = Listing l.text l.at l.lo l.hi (Value l.quote) l.n l.i

abbrev pub decreases-loop-d : goal.decreases-loop-d
decreases-loop-d l = left_in (Value l.quote) l.text l.i
