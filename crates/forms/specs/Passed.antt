-- Numbers of a list that are passed over: whether it lists whole numbers is told by the rest.
use Rattle.std.specs.Prelude.{◌≡◌, List, ℕ, ◌≤◌}
use Rattle.nodes.specs.Texts.{says_at, left}
use Rattle.numbers.specs.Numbers.{wholes}

pub record NumbersPassed (text : List ℕ) (at most i : ℕ) : Type 0 where
  pub same_list : wholes most (says_at text at) ≡ wholes most (says_at text i)
  pub ahead : left text i ≤ left text at
