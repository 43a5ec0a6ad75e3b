-- The next number of a list where plain bytes write it: one blank, one to six digits, a blank.
use Rattle.std.specs.Prelude.{◌≡◌, List, Bool, ◌||◌, ℕ, ◌+◌, ◌/◌, ◌%◌, ◌^◌, ◌<◌, eqb, length}
use Rattle.numbers.specs.Stream.{Plain}
use Rattle.numbers.specs.Answers.{next_number}
use Rattle.numbers.specs.declared.Run.{Run}
use Rattle.numbers.specs.declared.Next.TheVariants.{Number}

-- a space or a line feed: the blanks that stand between most numbers
unfoldable pub space_or_feed : ℕ → Bool
space_or_feed b = eqb b 32 || eqb b 10

-- how far a byte is above 48, the first digit, round 256
pub record FromZero (b r : ℕ) : Type 0 where
  pub told : r ≡ (b + 208) % 256
  pub byte : b < 256

-- six bytes and more stand ahead
pub record SixAhead (text : List ℕ) (at : ℕ) : Type 0 where
  pub inside : at + 6 < length text
  pub fits : at + 6 < 2 ^ 64

-- the plain digits there, and something behind them
pub record Six (text : List ℕ) (at : ℕ) (run : Run) : Type 0 where
  pub plain : Plain text at (at + 6) run
  pub ahead : SixAhead text at
  pub behind : run.next < length text

-- the next number in one number, sixteen times its value and how far behind it stands; 0 says nothing
pub record Quick (text : List ℕ) (at r : ℕ) : Type 0 where
  pub told : (r ≡ 0 → ⊥) → Number (r / 16) (at + r % 16) ≡ next_number text at
  pub fits : (r ≡ 0 → ⊥) → at + r % 16 < 2 ^ 64
