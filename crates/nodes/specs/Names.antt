-- The name of the element at a position.
use Rattle.std.specs.Prelude.{List, [], ◌∷◌, ℕ, Bool, false, eqb, drop}
use Rattle.grammar.specs.Read.{Read, fail, got}
use Rattle.grammar.specs.Parser.{name_at, same_bytes}
use Rattle.nodes.specs.Places.{pick}

-- ON BYTES: whether the element at a position has the name
unfoldable pub named_in : List ℕ → Read (List ℕ) → Bool
named_in w fail = false
named_in w (got n r) = same_bytes n w

unfoldable pub named_by : List ℕ → List ℕ → Bool
named_by w [] = false
named_by w (a ∷ s) = pick (eqb a 60) (named_in w (name_at s)) false

unfoldable pub named : List ℕ → ℕ → List ℕ → Bool
named text at w = named_by w (drop at text)
