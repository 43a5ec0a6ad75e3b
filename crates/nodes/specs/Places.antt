-- Elements at positions of a text: an element is the place where it begins.
use Rattle.std.specs.Prelude.{◌≡◌, List, [], ℕ, ◌<◌, Bool, true, false, length, drop}
use Rattle.grammar.specs.Document.{Element, element, nothing}
use Rattle.grammar.specs.Read.{Read, fail, got, Reader}
use Rattle.grammar.specs.Parser.{element_at}
use Rattle.grammar.specs.Unfuelled.{contents}

-- an element, at most sixteen deep
unfoldable pub element₁₆ : Reader Element
element₁₆ = element_at contents 16

-- the element at a position; one that is never read where none is
unfoldable pub found_in : Read Element → Element
found_in fail = element [] [] nothing []
found_in (got e r) = e

unfoldable pub the : List ℕ → ℕ → Element
the text at = found_in (element₁₆ (drop at text))

-- an element is there
pub record Stands (text : List ℕ) (at : ℕ) : Type 0 where
  pub here : at < length text
  pub rest : List ℕ
  pub reads : element₁₆ (drop at text) ≡ got (the text at) rest

-- one of two
abbrev pub pick : {A : Type 0} → Bool → A → A → A
pick true a b = a
pick false a b = b
