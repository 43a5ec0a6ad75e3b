-- Bytes in a row that all pass a test, and the tests that one comparison makes of all bytes of a block.
use Rattle.std.specs.Prelude.{◌≡◌, List, ℕ, ◌≤◌, Bool, true, not, ◌&&◌, ◌||◌, eqb, leb, ltb}
use Rattle.lists.specs.Lists.{all}
use Rattle.steps.specs.Noted.{part}

-- the bytes from `at` up to `to` all pass
unfoldable pub through : (ℕ → Bool) → List ℕ → (at to : ℕ) → Bool
through p text at to = all p (part at to text)

pub record Through (p : ℕ → Bool) (text : List ℕ) (at to : ℕ) : Type 0 where
  pub ahead : at ≤ to
  pub pass : through p text at to ≡ true

-- a byte other than `b`
unfoldable pub other : (b a : ℕ) → Bool
other b a = not (eqb a b)

-- from 32 to 127, or a line feed
unfoldable pub shown : ℕ → Bool
shown a = (ltb 31 a && leb a 127) || eqb a 10

-- a plain byte of text, and neither a tab nor a carriage return
unfoldable pub quick : ℕ → Bool
quick a = other 60 a && (other 38 a && (other 93 a && shown a))
