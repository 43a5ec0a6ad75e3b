-- CONDITIONS 2, 3, 4, 6, 29 AND 7, one after the other: the number of the first that applies, or that none does and where the root stands.
use Rattle.std.specs.Prelude.{◌≡◌, List, cond, ℕ, length, Some}
use Rattle.lists.specs.Refusals.{first}
use Rattle.grammar.specs.Document.{Element}
use Rattle.grammar.specs.Parser.{parse}
use Rattle.nodes.specs.Places.{the}
use Rattle.nodes.specs.Root.{root}
use Rattle.gifti.specs.Conditions.{root_wrong, shape_wrong, array_not_read, number_wrong, conditions_of_file}
use Rattle.gifti_opening.specs.declared.GiftiOpening.{GiftiOpening}

abbrev pub file_number : List ℕ → ℕ
file_number text = first (conditions_of_file (length text) (parse text))

-- THE PROMISE: the first that applies, or 0; where it is 0, the root's place
pub record OpensGifti (text : List ℕ) (r : GiftiOpening) : Type 0 where
  pub number_is : r.number ≡ file_number text
  pub placed : r.number ≡ 0 → root text ≡ Some r.root
  pub nowhere : (r.number ≡ 0 → ⊥) → r.root ≡ 0

-- of a root that stands at a place
unfoldable pub root_number : Element → ℕ
root_number e = cond (root_wrong e) 4 (cond (shape_wrong e) 6 (cond (array_not_read e) 29 (cond (number_wrong e) 7 0)))

pub record OpensRoot (text : List ℕ) (at : ℕ) (r : GiftiOpening) : Type 0 where
  pub number_is : r.number ≡ root_number (the text at)
  pub here : r.number ≡ 0 → r.root ≡ at
  pub nowhere : (r.number ≡ 0 → ⊥) → r.root ≡ 0
