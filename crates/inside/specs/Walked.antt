-- A WAY BY PLACES: what a walk over first and next children finds; and that it finds what the way reaches in the document.
use Rattle.std.specs.Prelude.{List, [], ◌∷◌, Bool, ℕ, zero, suc, length, Option, Some, None}
use Rattle.lists.specs.Lists.{those}
use Rattle.nodes.specs.Places.{the}
use Rattle.nodes.specs.Children.{first_child, next}
use Rattle.nodes.specs.Root.{root}
use Rattle.inside.specs.Way.{WayStep, step}

-- the places of the children from a cursor on, one behind the other
unfoldable pub places_within : ℕ → List ℕ → Option ℕ → List ℕ
places_within zero text kid = []
places_within (suc m) text None = []
places_within (suc m) text (Some k) = k ∷ places_within m text (next text k)

unfoldable pub places_from : List ℕ → Option ℕ → List ℕ
places_from text kid = places_within (suc (length text)) text kid

-- the n-th place, from 0
unfoldable pub nth_place : ℕ → List ℕ → Option ℕ
nth_place zero [] = None
nth_place (suc n) [] = None
nth_place zero (k ∷ l) = Some k
nth_place (suc n) (k ∷ l) = nth_place n l

-- the n-th child that passes, by places: any bytes
unfoldable pub child_at : (test : ℕ → Bool) (n : ℕ) (text : List ℕ) (at : ℕ) → Option ℕ
child_at t n text at = nth_place n (those t (places_from text (first_child text at)))

unfoldable pub thence : (ℕ → Option ℕ) → Option ℕ → Option ℕ
thence f None = None
thence f (Some k) = f k

unfoldable pub walked : List WayStep → List ℕ → ℕ → Option ℕ
walked [] text at = Some at
walked (step p n ∷ way) text at = thence (walked way text) (child_at (λ k. p (the text k)) n text at)

unfoldable pub walked_from : List WayStep → List ℕ → Option ℕ → Option ℕ
walked_from way text None = None
walked_from way text (Some r) = walked way text r

-- from the root
unfoldable pub way_at : List WayStep → List ℕ → Option ℕ
way_at way text = walked_from way text (root text)
