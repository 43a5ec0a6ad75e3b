-- THE PROMISES OF THE SHORT LIST FOR C: as those of `Promises`, over a list of four numbers a model.
use Rattle.std.specs.Prelude.{◌≡◌, cond, List, [], ◌∷◌, ℕ, Result}
use Rattle.records.specs.declared.counters.Index.{Index}
use Rattle.shortlist.specs.Making.{listed_number, listed_count}
use Rattle.shortlist.specs.Asking.{told_number, told_voxels, told_structure, sought_number, sought_index}
use Rattle.shortlist.specs.declared.answer.Told.{Told}
use Rattle.shortlist.specs.declared.answer.ListFault.{ListFault}
use Rattle.shortlist.specs.declared.answer.SearchFault.{SearchFault}
use Rattle.flat.specs.Flat.{laid_over}
use Rattle.record_doors.specs.Numbers.{ListsNumbers, TellsNumbers, SeeksNumbers}

pub record ListsFlat (records list slice : List ℕ) (number : ℕ) (listAfter sliceAfter : List ℕ) : Type 0 where
  pub answer : Result ℕ ListFault
  pub lists : ListsNumbers records list answer listAfter
  pub numbered : number ≡ listed_number answer
  pub flat : sliceAfter ≡ laid_over (listed_count answer ∷ []) slice

pub record TellsFlat (list : List ℕ) (n : ℕ) (slice : List ℕ) (number : ℕ) (sliceAfter : List ℕ) : Type 0 where
  pub answer : Result Told SearchFault
  pub tells : TellsNumbers list n answer
  pub numbered : number ≡ told_number answer
  pub flat : sliceAfter ≡ laid_over (cond (told_voxels answer) 1 0 ∷ told_structure answer ∷ []) slice

pub record SeeksFlat (list records : List ℕ) (x : ℕ) (slice : List ℕ) (number : ℕ) (sliceAfter : List ℕ) : Type 0 where
  pub answer : Result Index SearchFault
  pub seeks : SeeksNumbers list records x answer
  pub numbered : number ≡ sought_number answer
  pub flat : sliceAfter ≡ laid_over (sought_index answer ∷ []) slice
