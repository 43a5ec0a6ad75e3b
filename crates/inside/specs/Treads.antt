-- THE STEPS OF A PROGRAM: tests are of places, on any bytes; where an element stands, they are the steps of a way.
use Rattle.std.specs.Prelude.{List, [], ◌∷◌, Bool, ℕ, Option, Some, None}
use Rattle.nodes.specs.Names.{named}
use Rattle.inside.specs.Walked.{child_at, thence}

-- ---- By a name.

unfoldable pub called : (text word : List ℕ) (k : ℕ) → Bool
called text word k = named text k word

-- the n-th child of the name
unfoldable pub child_named : (word : List ℕ) (n : ℕ) (text : List ℕ) (at : ℕ) → Option ℕ
child_named word n text at = child_at (called text word) n text at

-- ---- A WAY OF TREADS: the same way, with tests of places.

pub data Tread : Type 0 where
  tread : (test : ℕ → Bool) (n : ℕ) → Tread

unfoldable pub trod : List Tread → List ℕ → ℕ → Option ℕ
trod [] text at = Some at
trod (tread t n ∷ l) text at = thence (trod l text) (child_at t n text at)

unfoldable pub trod_from : List Tread → List ℕ → Option ℕ → Option ℕ
trod_from l text None = None
trod_from l text (Some r) = trod l text r
