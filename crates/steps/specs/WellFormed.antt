-- Which texts are documents.
use Rattle.std.specs.Prelude.{◌≡◌, refl, List, ℕ, Bool, true, false}
use Rattle.grammar.specs.Document.{Element}
use Rattle.grammar.specs.Grammar.{Writes}

-- the answer is whether some document is written by the text
pub record WellFormed (text : List ℕ) (answer : Bool) : Type 0 where
  pub accepts : answer ≡ true → (e : Element) × Writes e text
  pub refuses : answer ≡ false → (e : Element) → Writes e text → ⊥

-- there is one such answer
pub well_formed_unique : {text : List ℕ} {a b : Bool} → WellFormed text a → WellFormed text b → a ≡ b
well_formed_unique {a = true} {b = true} h k = refl
well_formed_unique {a = true} {b = false} h k = let d = h.accepts refl in absurd (k.refuses refl d.0 d.1)
well_formed_unique {a = false} {b = true} h k = let d = k.accepts refl in absurd (h.refuses refl d.0 d.1)
well_formed_unique {a = false} {b = false} h k = refl
