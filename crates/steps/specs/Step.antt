-- What a reader of the program answers, given what the grammar's reader finds: the position behind what was read.
use Rattle.std.specs.Prelude.{◌≡◌, List, ℕ, ◌-◌, ◌≤◌, length, drop, Option, Some, None}
use Rattle.grammar.specs.Read.{Read, fail, got, Reader}

-- `n` is the length of the whole text, whose end the reader was given
unfoldable pub stepped : {A : Type 0} → ℕ → Read A → Option ℕ
stepped n fail = None
stepped n (got a r) = Some (n - length r)

-- the reader reads from `at` up to `to`
pub record Went {A : Type 0} (p : Reader A) (text : List ℕ) (at to : ℕ) : Type 0 where
  pub value : A
  pub reads : p (drop at text) ≡ got value (drop to text)
  pub inside : to ≤ length text
  pub ahead : at ≤ length text → at ≤ to
