-- EVERY MAP HAS THE LENGTH OF EACH DIMENSION THAT IT LISTS: the loop over the digits, and the loop over the maps.
use Rattle.std.specs.Prelude.{List, [], Bool, not, ◌&&◌, ℕ, ◌<◌, eqb, get_or}
use Rattle.lists.specs.Lists.{any, count}
use Rattle.maps.specs.Survey.{Noted}
use Rattle.maps.specs.declared.survey.MapNote.{MapNote}

-- some listed dimension has not this length
unfoldable pub differs : (size : ℕ) (lengths : List ℕ) → List ℕ → Bool
differs size lengths l = any (λ d. not (eqb size (get_or lengths d 0))) l

-- the dimension is listed, and has not this length
unfoldable pub differs_at : (size : ℕ) (lengths : List ℕ) → List ℕ → ℕ → Bool
differs_at size lengths l d = not (eqb size (get_or lengths d 0)) && not (eqb (count (eqb d) l) 0)

-- ---- One map.

pub record DigitOf (text : List ℕ) (n : MapNote) (d : ℕ) : Type 0 where
  pub noted : Noted text n
  pub digit : d < 10
