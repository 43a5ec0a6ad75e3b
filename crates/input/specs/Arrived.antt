-- WHAT IS TOLD OF BYTES THAT CAME: no more than there is room for, and none where a read failed.
use Rattle.std.specs.Prelude.{◌≡◌, true, false, ℕ, ◌-◌, ◌≤◌, ◌<◌, List, ◌++◌, length, take, slice_index, ◌⊎◌, Option}
use Rattle.std.specs.Io.{StopsAt}
use Rattle.std.specs.Io.KnownBytes.{Consumes, IsAtEnd}
use Rattle.input.specs.declared.came.Came.{Came}

abbrev pub Arrived : (room : ℕ) → Came → Type 0
Arrived room r = (r.count ≤ room) × (r.failed ≡ true → r.count ≡ 0)

-- ---- Of a stream whose bytes are known: what it had left, what it has left after, and the bytes lent.

-- Those that it had came, in their order; where fewer came than there is room for, no more are left.
pub record Took (left leftAfter : Option (List ℕ)) (bytes : List ℕ) (r : Came) : Type 0 where
  pub in_order : r.failed ≡ false → Consumes left leftAfter (take r.count bytes)
  pub all_left : r.failed ≡ false → r.count < length bytes → IsAtEnd leftAfter

-- A line feed is the last of those that came, and where none came and there is room, no more are left.
pub record TookLine (left leftAfter : Option (List ℕ)) (line : List ℕ) (r : Came) : Type 0 where
  pub in_order : r.failed ≡ false → Consumes left leftAfter (take r.count line)
  pub one_line : r.failed ≡ false → StopsAt (take r.count line) 10
  pub ended : r.failed ≡ false → r.count < length line → ((0 < r.count) × (slice_index line (r.count - 1) ≡ 10)) ⊎ IsAtEnd leftAfter

-- With those for which there is no room; where there is room for all that came, no more are left.
pub record TookPast (left leftAfter : Option (List ℕ)) (bytes : List ℕ) (r : Came) : Type 0 where
  pub in_order : r.failed ≡ false
      → (past : List ℕ) × Consumes left leftAfter (take r.count bytes ++ past) × (length (take r.count bytes ++ past) ≡ r.count)
  pub all_left : r.failed ≡ false → r.count ≤ length bytes → IsAtEnd leftAfter
