-- THE PROMISES OF THE FUNCTIONS FOR C: each is the promise of the function below it for some answer, the number returned is that
-- answer's, and the slice lent for the rest of the answer holds its values.
use Rattle.std.specs.Prelude.{◌≡◌, List, [], ◌∷◌, ℕ}
use Rattle.records.specs.Find.{Finds}
use Rattle.records.specs.Sheet.{Packs, Unpacks}
use Rattle.records.specs.declared.search.RecordFound.{RecordFound}
use Rattle.records.specs.declared.outcome.Outcome.{Outcome}
use Rattle.flat.specs.Flat.{laid_over}

pub record FindsFlat (records : List ℕ) (x : ℕ) (slice : List ℕ) (number : ℕ) (sliceAfter : List ℕ) : Type 0 where
  pub answer : RecordFound
  pub finds : Finds records x answer
  pub numbered : number ≡ answer.number
  pub flat : sliceAfter ≡ laid_over (answer.place.0 ∷ []) slice

pub record PacksFlat (records sheet slice : List ℕ) (number : ℕ) (sheetAfter sliceAfter : List ℕ) : Type 0 where
  pub answer : Outcome
  pub packs : Packs records sheet answer sheetAfter
  pub numbered : number ≡ answer.number
  pub flat : sliceAfter ≡ laid_over (answer.value ∷ []) slice

pub record UnpacksFlat (sheet records slice : List ℕ) (number : ℕ) (records_after sliceAfter : List ℕ) : Type 0 where
  pub answer : Outcome
  pub unpacks : Unpacks sheet records answer records_after
  pub numbered : number ≡ answer.number
  pub flat : sliceAfter ≡ laid_over (answer.value ∷ []) slice
