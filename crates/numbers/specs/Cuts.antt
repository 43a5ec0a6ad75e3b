-- A word without a byte that cuts it.
use Rattle.std.specs.Prelude.{◌≡◌, [], ◌∷◌, Bool, false, ℕ}
use Rattle.grammar.specs.Look.{Word}

-- bytes that are no cut
pub data Uncut (p : ℕ → Bool) : Word → Type 0 where
  none : Uncut p []
  more : {a : ℕ} {w : Word} → p a ≡ false → Uncut p w → Uncut p (a ∷ w)
