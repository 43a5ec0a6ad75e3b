-- THE PROMISE OF ALL NAMES FOR C: as those of `Promises`.
use Rattle.std.specs.Prelude.{◌≡◌, List, [], ◌∷◌, ℕ}
use Rattle.records.specs.declared.outcome.Outcome.{Outcome}
use Rattle.flat.specs.Flat.{laid_over}
use Rattle.all_names.specs.Names.{MapNamesPlaced}

pub record MapNamesFlat (text lengths : List ℕ) (dimension : ℕ) (places slice : List ℕ) (number : ℕ) (placesAfter sliceAfter : List ℕ)
    : Type 0 where
  pub answer : Outcome
  pub placed : MapNamesPlaced text lengths dimension places answer placesAfter
  pub numbered : number ≡ answer.number
  pub flat : sliceAfter ≡ laid_over (answer.value ∷ []) slice
