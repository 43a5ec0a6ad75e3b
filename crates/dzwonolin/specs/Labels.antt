-- THE PROMISES OF LABELS FOR C: as those of `Promises`, with a list of keys.
use Rattle.std.specs.Prelude.{◌≡◌, List, [], ◌∷◌, ℕ, ℤ}
use Rattle.cifti.specs.Labels.{Keys}
use Rattle.map_names.specs.declared.NamePlace.{NamePlace}
use Rattle.label_reader.specs.Names.{LabelPlaced}
use Rattle.flat.specs.Flat.{laid_over}

pub record KeysFlat (text lengths : List ℕ) (dimension index : ℕ) (keys : List ℤ) (slice : List ℕ) (number : ℕ) (keysAfter : List ℤ)
    (sliceAfter : List ℕ) : Type 0 where
  pub count : ℕ
  pub keyed : Keys text lengths dimension index keys number count keysAfter
  pub flat : sliceAfter ≡ laid_over (count ∷ []) slice

pub record LabelsFlat (text lengths : List ℕ) (dimension index : ℕ) (key : ℤ) (slice : List ℕ) (number : ℕ) (sliceAfter : List ℕ)
    : Type 0 where
  pub answer : NamePlace
  pub places : LabelPlaced text lengths dimension index key answer
  pub numbered : number ≡ answer.number
  pub flat : sliceAfter ≡ laid_over (answer.start ∷ answer.length ∷ []) slice
