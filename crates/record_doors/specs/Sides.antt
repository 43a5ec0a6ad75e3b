-- THE PROMISES OF TWO SHEETS SIDE BY SIDE FOR C: as those of `Promises`.
use Rattle.std.specs.Prelude.{◌≡◌, List, [], ◌∷◌, ℕ}
use Rattle.comparison.specs.Compare.{Compares, TailPlaced}
use Rattle.comparison.specs.declared.Compared.{Compared}
use Rattle.comparison.specs.declared.TailPlace.{TailPlace}
use Rattle.flat.specs.Flat.{laid_over}

-- how many are the same, moved, in the first only and in the second only
abbrev pub compared_numbers : Compared → List ℕ
compared_numbers a = a.same ∷ a.moved ∷ a.first ∷ a.second ∷ []

-- which sheet the part is of, where it starts there, and its length
abbrev pub place_numbers : TailPlace → List ℕ
place_numbers a = a.sheet ∷ a.start ∷ a.length ∷ []

pub record ComparesFlat (s t work slice : List ℕ) (number : ℕ) (workAfter sliceAfter : List ℕ) : Type 0 where
  pub answer : Compared
  pub compares : Compares s t work answer workAfter
  pub numbered : number ≡ answer.number
  pub flat : sliceAfter ≡ laid_over (compared_numbers answer) slice

pub record TailsFlat (s t work slice : List ℕ) (number : ℕ) (workAfter sliceAfter : List ℕ) : Type 0 where
  pub answer : TailPlace
  pub places : TailPlaced s t work answer workAfter
  pub numbered : number ≡ answer.number
  pub flat : sliceAfter ≡ laid_over (place_numbers answer) slice
