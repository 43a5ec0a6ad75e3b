-- MAKING THE LIST: what is refused, in order, and what the list lent holds. Assumes nothing.
use Rattle.std.specs.Prelude.{◌≡◌, not, List, [], ◌∷◌, ℕ, ltb, length, Result, Ok, Err}
use Rattle.lists.specs.Lists.{all}
use Rattle.lists.specs.Refusals.{◌when◌, first}
use Rattle.records.specs.Record.{legal_record}
use Rattle.records.specs.Sheet.{good_count}
use Rattle.records.specs.Outcome.{unless}
use Rattle.shortlist.specs.Faults.{list_fault_number}
use Rattle.shortlist.specs.Runs.{runs, comes_back, laid}
use Rattle.shortlist.specs.declared.answer.Model.{Model}
use Rattle.shortlist.specs.declared.answer.ListFault.{ListFault}

-- the paper's number of an answer, and its value
abbrev pub listed_number : Result ℕ ListFault → ℕ
listed_number (Ok n) = 0
listed_number (Err e) = list_fault_number e

abbrev pub listed_count : Result ℕ ListFault → ℕ
listed_count (Ok n) = n
listed_count (Err e) = 0

-- the paper's number for the list of records in so many places
unfoldable pub list_refusal : List ℕ → (room : ℕ) → ℕ
list_refusal rs room =
    first
    (15 when not (good_count (length rs))
    ∷ 16 when not (all legal_record rs)
    ∷ 26 when comes_back rs
    ∷ 17 when ltb room (length (runs rs))
    ∷ [])

-- what `model_list` promises: `before` and `after` are the list lent
pub record Lists (rs : List ℕ) (before : List Model) (answer : Result ℕ ListFault) (after : List Model) : Type 0 where
  pub numbered : listed_number answer ≡ list_refusal rs (length before)
  pub counted : listed_count answer ≡ unless (listed_number answer) (length (runs rs)) 0
  pub holds : after ≡ unless (listed_number answer) (laid (runs rs) before) before
