-- Digits of a value that stand plain.
use Rattle.std.specs.Prelude.{Bool, ◌&&◌, not, ℕ, eqb}
use Rattle.numbers.specs.Numbers.{digit}

-- a digit that is not the quote of the value
unfoldable pub plain_digit : (quote byte : ℕ) → Bool
plain_digit q b = digit b && not (eqb b q)
