-- THE PROMISE OF A GIFTI LABEL FILE'S KEYS FOR C: as `KeysFlat` of labels.
use Rattle.std.specs.Prelude.{◌≡◌, List, [], ◌∷◌, ℕ, ℤ}
use Rattle.gifti.specs.Keys.{KeysOf}
use Rattle.flat.specs.Flat.{laid_over}

pub record GiftiFlat (text : List ℕ) (array : ℕ) (keys : List ℤ) (slice : List ℕ) (number : ℕ) (keysAfter : List ℤ)
    (sliceAfter : List ℕ) : Type 0 where
  pub count : ℕ
  pub keyed : KeysOf text array keys number count keysAfter
  pub flat : sliceAfter ≡ laid_over (count ∷ []) slice
