-- WHY TWO SHEETS ARE NOT COMPARED, in which order, and what is known of two that are not refused so far. Assumes nothing.
use Rattle.std.specs.Prelude.{◌≡◌, false, not, List, [], ◌∷◌, ℕ, ◌+◌, ◌≤◌, eqb, ltb}
use Rattle.lists.specs.Lists.{two_of}
use Rattle.lists.specs.Refusals.{◌when◌, first}
use Rattle.records.specs.Sheet.{count_of}
use Rattle.comparison.specs.Compare.{records_of, well_formed, well_filled}
use Rattle.comparison.specs.Accepted.{sheet_refusal}
use Rattle.compare.specs.declared.refusal.Refusal.{Refusal}
use Rattle.compare.specs.declared.refusal.Refusal.TheVariants.{NoSheet, BadRecord, NoRoom, Repeated}

-- the paper's number
abbrev pub number_of : Refusal → ℕ
number_of NoSheet = 15
number_of BadRecord = 16
number_of NoRoom = 13
number_of Repeated = 14

-- 15, 16 of the first sheet, then of the second
unfoldable pub sheets_refusal : List ℕ → List ℕ → ℕ
sheets_refusal s t =
    first (15 when not (well_formed s) ∷ 16 when not (well_filled s) ∷ 15 when not (well_formed t) ∷ 16 when not (well_filled t) ∷ [])

-- and then 13, and 14 of the first sheet
unfoldable pub front_refusal : List ℕ → List ℕ → ℕ → ℕ
front_refusal s t room =
    first
    (15 when not (well_formed s)
    ∷ 16 when not (well_filled s)
    ∷ 15 when not (well_formed t)
    ∷ 16 when not (well_filled t)
    ∷ 13 when ltb room (count_of s + count_of t)
    ∷ 14 when two_of eqb (records_of s)
    ∷ [])

-- 14 of one sheet
unfoldable pub sheet_repeat_refusal : List ℕ → ℕ
sheet_repeat_refusal t = first (14 when two_of eqb (records_of t) ∷ [])

-- a sheet to which 15 and 16 do not apply, and room for it
pub record SheetFits (s : List ℕ) (room : ℕ) : Type 0 where
  pub fine : sheet_refusal s ≡ 0
  pub fits : count_of s ≤ room

-- two sheets that are not refused so far
pub record Begun (s t : List ℕ) (room : ℕ) : Type 0 where
  pub one : sheet_refusal s ≡ 0
  pub two : sheet_refusal t ≡ 0
  pub fits : count_of s + count_of t ≤ room
  pub first_once : two_of eqb (records_of s) ≡ false
