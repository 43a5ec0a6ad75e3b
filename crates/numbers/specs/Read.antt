-- What is the same from here as from the start, for the loops over letters and digits.
use Rattle.std.specs.Prelude.{◌≡◌, List, ℕ, ◌+◌, ◌-◌, ◌^◌, ◌≤◌, ◌<◌}
use Rattle.numbers.specs.Stream.{letter_at, digits_at}
use Rattle.numbers.specs.declared.Source.{Source}

-- a letter
pub record Seeking (text : List ℕ) (at i : ℕ) : Type 0 where
  pub same : letter_at text at ≡ letter_at text i

pub record Running (source : Source) (text : List ℕ) (most before at n k i : ℕ) : Type 0 where
  pub few : k ≤ most
  pub top : most ≤ 15
  pub bound : n < 10 ^ (15 - most + k)
  pub same : digits_at source text most before 0 at ≡ digits_at source text (most - k) n k i
