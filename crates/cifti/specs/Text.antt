-- A QUESTION ON A TEXT: the document of the text, or that there is none, and an answer that equals a term over it.
use Rattle.std.specs.Prelude.{◌≡◌, List, ℕ, Option, Some, None}
use Rattle.grammar.specs.Document.{Element}
use Rattle.grammar.specs.Grammar.{Writes}

pub data DocumentOf (text : List ℕ) : Option Element → Type 0 where
  written : {e : Element} → Writes e text → DocumentOf text (Some e)
  unwritten : ((e : Element) → ¬ Writes e text) → DocumentOf text None

pub record Answers {A : Type 0} (text : List ℕ) (f : Option Element → A) (answer : A) : Type 0 where
  pub document : Option Element
  pub of : DocumentOf text document
  pub answered : answer ≡ f document
