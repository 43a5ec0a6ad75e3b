-- Words at a place of the text, as the library compares slices.
use Rattle.std.specs.Prelude.{◌≡◌, refl, List, [], ◌∷◌, ℕ, ◌&&◌, eqb, length, drop, Option, Some, None, is_some}
use Rattle.std.proofs.Common.{ap}
use Rattle.std.specs.Cmp.Lexicographic.{pointwise}
use Rattle.grammar.specs.Bytes.{begins}
use Rattle.grammar.specs.Read.{mark}
use Rattle.grammar.specs.Parser.{same_bytes}
use Rattle.steps.specs.Step.{stepped}
use Rattle.steps.proofs.Laws.Characters.{starts_so, starts_not}

-- whether it stands there
pub starts_is : (text : List ℕ) (at : ℕ) (word : List ℕ) (r : Option ℕ) → r ≡ stepped (length text) (mark word (drop at text))
    → is_some r ≡ begins word (drop at text)
starts_is text at word (Some j) q = starts_so text at word q refl
starts_is text at word None q = starts_not text at word q refl

-- two words
pub same_is : (s t : List ℕ) → pointwise eqb s t ≡ same_bytes s t
unfolding same_bytes
same_is [] [] = refl
same_is [] (b ∷ t) = refl
same_is (a ∷ s) [] = refl
same_is (a ∷ s) (b ∷ t) = ap (λ r. eqb a b && r) (same_is s t)
