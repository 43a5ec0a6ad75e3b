-- ACCEPTED: what it takes to compare two sheets in so many places. Assumes nothing.
use Rattle.std.specs.Prelude.{◌≡◌, false, not, List, [], ◌∷◌, ℕ, ◌+◌, ◌≤◌, eqb}
use Rattle.lists.specs.Lists.{two_of}
use Rattle.lists.specs.Refusals.{◌when◌, first}
use Rattle.records.specs.Sheet.{count_of}
use Rattle.comparison.specs.Compare.{records_of, well_formed, well_filled}

-- 15, 16 of one sheet
unfoldable pub sheet_refusal : List ℕ → ℕ
sheet_refusal s = first (15 when not (well_formed s) ∷ 16 when not (well_filled s) ∷ [])

pub record Accepted (s t : List ℕ) (room : ℕ) : Type 0 where
  pub one : sheet_refusal s ≡ 0
  pub two : sheet_refusal t ≡ 0
  pub fits : count_of s + count_of t ≤ room
  pub first_once : two_of eqb (records_of s) ≡ false
  pub second_once : two_of eqb (records_of t) ≡ false
