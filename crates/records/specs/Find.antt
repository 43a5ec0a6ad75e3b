-- FIND: the first place of a number in the records. Assumes nothing.
use Rattle.std.specs.Prelude.{◌≡◌, not, List, [], ◌∷◌, ℕ, ◌<◌, eqb, length, get_or}
use Rattle.lists.specs.Lists.{any}
use Rattle.lists.specs.Refusals.{◌when◌, first}
use Rattle.records.specs.declared.search.RecordFound.{RecordFound}

-- the number stands at no place below n
abbrev pub AbsentBelow : ℕ → List ℕ → ℕ → Type 0
AbsentBelow n rs x = (k : ℕ) → k < n → get_or rs k 0 ≡ x → ⊥

-- the number stands at the place, and at none before it
pub record FirstPlace (rs : List ℕ) (x place : ℕ) : Type 0 where
  pub inside : place < length rs
  pub stands : get_or rs place 0 ≡ x
  pub absent : AbsentBelow place rs x

-- the paper's number
unfoldable pub find_refusal : List ℕ → ℕ → ℕ
find_refusal rs x = first (19 when not (any (eqb x) rs) ∷ [])

-- what `find` promises
pub record Finds (rs : List ℕ) (x : ℕ) (answer : RecordFound) : Type 0 where
  pub numbered : answer.number ≡ find_refusal rs x
  pub found : answer.number ≡ 0 → FirstPlace rs x answer.place.0
  pub refused : (answer.number ≡ 0 → ⊥) → answer.place.0 ≡ 0
