-- The whole text is a document where what stands behind the root ends with the text.
use Rattle.std.specs.Prelude.{◌≡◌, refl, List, ℕ, eqb, length, drop, Option, Some, None}
use Rattle.std.specs.Option.{option_eq}
use Rattle.grammar.specs.Parser.{element_at}
use Rattle.grammar.specs.Unfuelled.{contents}
use Rattle.steps.specs.Step.{stepped}
use Rattle.steps.specs.Prologue.{asides_at, preamble_at}
use Rattle.steps.specs.WellFormed.{WellFormed}
use Rattle.steps.proofs.Laws.Document.{unended, ended}

module _ (text : List ℕ) {r₁ : Option ℕ} (q₁ : r₁ ≡ stepped (length text) (preamble_at text)) {i : ℕ} (e₁ : r₁ ≡ Some i)
    {r₂ : Option ℕ} (q₂ : r₂ ≡ stepped (length text) (element_at contents 16 (drop i text))) {j : ℕ} (e₂ : r₂ ≡ Some j) where
  pub ends_there : (r₃ : Option ℕ) → r₃ ≡ stepped (length text) (asides_at (drop j text))
      → WellFormed text (option_eq eqb r₃ (Some (length text)))
  ends_there None q₃ = unended text q₁ e₁ q₂ e₂ q₃ refl
  ends_there (Some k) q₃ = ended text q₁ e₁ q₂ e₂ q₃ refl
