-- WHICH CONDITIONS APPLY TO AN INPUT, and what it is for a number to be the one that the paper asks for.
use Rattle.std.specs.Prelude.{◌≡◌, ◌↔◌, List, [], ◌∷◌, ◌++◌, ℕ, ◌≤◌, length, Option}
use Rattle.lists.specs.Refusals.{Refusal, ◌when◌, Applies}
use Rattle.grammar.specs.Document.{Element}
use Rattle.cifti.specs.Conditions.{conditions, conditions_of_header, of_maps}
use Rattle.cifti.specs.Names.{no_name}
use Rattle.cifti.specs.Text.{DocumentOf}

-- the row of this number applies to the text: to its document, or to that there is none
pub record AppliesTo (text : List ℕ) (rows : Option Element → List Refusal) (number : ℕ) : Type 0 where
  pub document : Option Element
  pub of : DocumentOf text document
  pub applies : Applies (rows document) number

-- one of 1 to 14, 24 or 25 applies to the text, with these lengths, and so many records and so much work space lent
abbrev pub Condition : (text lengths : List ℕ) (room work number : ℕ) → Type 0
Condition text lengths room work number = AppliesTo text (conditions lengths (length text) room work) number

-- one of 1 to 9, or 18, applies to the text, with these lengths, for the map name of a dimension and an index
unfoldable pub name_conditions : (lengths : List ℕ) (size dimension index : ℕ) → Option Element → List Refusal
name_conditions lengths size d i e = conditions_of_header lengths size e ++ (18 when of_maps (no_name d i) e ∷ [])

abbrev pub NameCondition : (text lengths : List ℕ) (dimension index number : ℕ) → Type 0
NameCondition text lengths d i number = AppliesTo text (name_conditions lengths (length text) d i) number

-- the number is 0 if and only if nothing applies; else it applies, and it is the smallest that does
pub record SmallestOf (applies : (number : ℕ) → Type 0) (number : ℕ) : Type 0 where
  pub accepted : (number ≡ 0) ↔ ((n : ℕ) → ¬ applies n)
  pub refused : (number ≡ 0 → ⊥) → applies number
  pub smallest : (n : ℕ) → applies n → number ≤ n
