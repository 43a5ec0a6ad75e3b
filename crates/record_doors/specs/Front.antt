-- THE PROMISE OF THE FUNCTION FOR C THAT TELLS WHERE THE TEXT OF A FILE IS.
use Rattle.std.specs.Prelude.{◌≡◌, List, [], ◌∷◌, ℕ, get_or}
use Rattle.nifti.specs.File.{Fronts}
use Rattle.nifti.specs.declared.Front.{Front}
use Rattle.flat.specs.Flat.{laid_over}

-- the count of lengths, three lengths, and where the part starts, and its length
abbrev pub front_numbers : Front → List ℕ
front_numbers f = f.count ∷ get_or f.lengths 0 0 ∷ get_or f.lengths 1 0 ∷ get_or f.lengths 2 0 ∷ f.start ∷ f.length ∷ []

pub record FrontsFlat (file slice : List ℕ) (number : ℕ) (sliceAfter : List ℕ) : Type 0 where
  pub answer : Front
  pub fronts : Fronts file answer
  pub numbered : number ≡ answer.number
  pub flat : sliceAfter ≡ laid_over (front_numbers answer) slice
