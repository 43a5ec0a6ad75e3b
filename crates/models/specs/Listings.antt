-- THE LIST OF A MODEL: the text of its only child.
use Rattle.std.specs.Prelude.{◌≡◌, List, [], ◌∷◌, true, ℕ, Option}
use Rattle.lists.specs.Lists.{all}
use Rattle.grammar.specs.Document.{Element}
use Rattle.grammar.specs.Look.{contents_of, elements, text_of}
use Rattle.numbers.specs.Numbers.{digits, words, values}
use Rattle.nodes.specs.Places.{the}
use Rattle.nodes.specs.Texts.{text_from}
use Rattle.cifti.specs.Maps.{Listed, vertices, voxels, model_of, listed_by}
use Rattle.models.specs.Kind.{ModelAt, type_and_structure}

-- the numbers that are listed
unfoldable pub listed_numbers : Listed → List ℕ
listed_numbers (vertices n l) = l
listed_numbers (voxels l) = l

-- its only child, and what that says
pub record OnlyText (e : Element) : Type 0 where
  pub one : Element
  pub alone : elements (contents_of e) ≡ one ∷ []
  pub form : all (digits 1 7) (words (text_of one)) ≡ true
  pub numbers : listed_numbers (listed_by e) ≡ values (text_of one)

-- ---- Where it begins.

pub record ListAt (text : List ℕ) (at : ℕ) (f : Option ℕ) : Type 0 where
  pub form : all (digits 1 7) (words (text_from text f)) ≡ true
  pub numbers : values (text_from text f) ≡ listed_numbers (model_of (the text at)).listed

-- what is answered where a model stands
pub record StartOf (text : List ℕ) (at : ℕ) (f : Option ℕ) : Type 0 where
  pub told : ModelAt text at → ListAt text at f

-- ---- What is said of it.

pub record ModelKnown (text : List ℕ) (at size kind : ℕ) : Type 0 where
  pub model : ModelAt text at
  pub length_is : size ≡ (model_of (the text at)).count
  pub kind_is : kind ≡ type_and_structure (model_of (the text at))
