-- The sixteen decimals of a transformation, one by one: so many are still to come.
use Rattle.std.specs.Prelude.{Bool, true, cond, ℕ, eqb, leb}
use Rattle.numbers.specs.Numbers.{in_value, is_whole}
use Rattle.numbers.specs.declared.Decimal.{Decimal}

-- the last four are 0 0 0 1, whatever stands before them
unfoldable pub right_at : ℕ → Decimal → Bool
right_at m d = cond (leb 4 m) true (in_value is_whole (cond (eqb m 0) 1 0) d)
