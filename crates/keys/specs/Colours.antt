-- A COLOUR TOLD AT SIGHT.
use Rattle.std.specs.Prelude.{◌≡◌, List, Bool, true, ℕ}
use Rattle.nodes.specs.Values.{value_there}
use Rattle.numbers.specs.Numbers.{colour}

-- where the answer is yes, the value at `at` is a colour; else nothing is said
pub record AtSight (text : List ℕ) (at : ℕ) (yes : Bool) : Type 0 where
  pub coloured : yes ≡ true → colour (value_there text at) ≡ true
