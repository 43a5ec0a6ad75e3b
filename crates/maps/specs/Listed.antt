-- CONDITIONS 8 AND 9 BY DIGITS: all listed dimensions are digits, so ten counts tell what they are.
use Rattle.std.specs.Prelude.{[], cond, ℕ, ltb}

-- how often a dimension is to be listed where there are n
unfoldable pub wanted : (n d : ℕ) → ℕ
wanted n d = cond (ltb d n) 1 0
