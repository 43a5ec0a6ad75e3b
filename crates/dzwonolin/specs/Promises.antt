-- THE PROMISES OF THE FUNCTIONS FOR C: each is the promise of the function below it for some answer, the number returned is that
-- answer's, and the slice lent for the rest of the answer holds its values.
use Rattle.std.specs.Prelude.{◌≡◌, List, [], ◌∷◌, ℕ}
use Rattle.cifti.specs.Answer.{Reads}
use Rattle.cifti.specs.declared.answer.Answer.{Answer}
use Rattle.map_names.specs.Placed.{NamePlaced}
use Rattle.map_names.specs.declared.NamePlace.{NamePlace}
use Rattle.file_reader.specs.Whole.{ReadsFile, FilePlaced}
use Rattle.flat.specs.Flat.{answer_numbers, laid_over}

pub record ReadsFlat (text lengths records work slice : List ℕ) (number : ℕ) (records_after workAfter sliceAfter : List ℕ) : Type 0 where
  pub answer : Answer
  pub reads : Reads text lengths records work answer records_after workAfter
  pub numbered : number ≡ answer.number
  pub flat : sliceAfter ≡ laid_over (answer_numbers answer) slice

pub record NamesFlat (text lengths : List ℕ) (dimension index : ℕ) (slice : List ℕ) (number : ℕ) (sliceAfter : List ℕ) : Type 0 where
  pub answer : NamePlace
  pub places : NamePlaced text lengths dimension index answer
  pub numbered : number ≡ answer.number
  pub flat : sliceAfter ≡ laid_over (answer.start ∷ answer.length ∷ []) slice

-- ---- Of a file.

pub record ReadsFileFlat (file records work slice : List ℕ) (number : ℕ) (records_after workAfter sliceAfter : List ℕ) : Type 0 where
  pub answer : Answer
  pub reads : ReadsFile file records work answer records_after workAfter
  pub numbered : number ≡ answer.number
  pub flat : sliceAfter ≡ laid_over (answer_numbers answer) slice

pub record FileNamesFlat (file : List ℕ) (dimension index : ℕ) (slice : List ℕ) (number : ℕ) (sliceAfter : List ℕ) : Type 0 where
  pub answer : NamePlace
  pub places : FilePlaced file dimension index answer
  pub numbered : number ≡ answer.number
  pub flat : sliceAfter ≡ laid_over (answer.start ∷ answer.length ∷ []) slice
