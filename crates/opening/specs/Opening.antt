-- CONDITIONS 1 TO 7, one after the other: the number of the first that applies, or that none does and where the matrix stands.
use Rattle.std.specs.Prelude.{◌≡◌, List, [], ◌∷◌, false, cond, ℕ, ◌≤◌, length, Option, Some, None}
use Rattle.grammar.specs.Document.{Element}
use Rattle.grammar.specs.Look.{children}
use Rattle.grammar.specs.Parser.{parse}
use Rattle.nodes.specs.Places.{Stands, the}
use Rattle.nodes.specs.Children.{first_child}
use Rattle.nodes.specs.Root.{root}
use Rattle.cifti.specs.Rows.{matrix}
use Rattle.cifti.specs.Maps.{maps_of}
use Rattle.cifti.specs.Conditions as C
use Rattle.cifti.specs.Conditions.{lengths_wrong, root_wrong, kind_not_read, shape_wrong, number_wrong}
use Rattle.cifti.specs.Conditions.{conditions_of_header}
use Rattle.maps.specs.Good.{Good}
use Rattle.maps.specs.Ready.{matrix_maps}
use Rattle.opening.specs.declared.header.Opening.{Opening}

pub record Passed (text lengths : List ℕ) (m : ℕ) : Type 0 where
  pub fine : lengths_wrong lengths ≡ false
  pub short : length text ≤ 16777216
  pub document : Element
  pub parsed : parse text ≡ Some document
  pub right_root : root_wrong document ≡ false
  pub read_kinds : kind_not_read document ≡ false
  pub shape : shape_wrong document ≡ false
  pub numbers : number_wrong document ≡ false
  pub stands : Stands text m
  pub good : Good matrix (the text m)
  pub maps : maps_of document ≡ matrix_maps (the text m)
  pub only : children "Matrix" document ≡ the text m ∷ []

-- the first of the header's conditions that applies
abbrev pub header_number : (text lengths : List ℕ) → ℕ
header_number text lengths = C.first (conditions_of_header lengths (length text) (parse text))

unfoldable pub kid_place : Option ℕ → ℕ
kid_place (Some k) = k
kid_place None = 0

-- where the first child of the root begins
unfoldable pub matrix_place : List ℕ → ℕ
matrix_place text = kid_place (first_child text (kid_place (root text)))

-- the number is that of the first of 1 to 7 that applies; where none does, the matrix is the root's only child
pub record Opens (text lengths : List ℕ) (r : Opening) : Type 0 where
  pub refused : (r.number ≡ 0 → ⊥) → r.number ≡ header_number text lengths
  pub among : r.number ≤ 7
  pub nowhere : (r.number ≡ 0 → ⊥) → r.matrix ≡ 0
  pub passed : r.number ≡ 0 → Passed text lengths r.matrix
  pub there_it_is : r.number ≡ 0 → r.matrix ≡ matrix_place text

-- the first of 4 to 7 that applies to a root, or what comes behind them
abbrev pub root_number : Element → ℕ → ℕ
root_number e n = cond (root_wrong e) 4 (cond (kind_not_read e) 5 (cond (shape_wrong e) 6 (cond (number_wrong e) 7 n)))

-- ---- The root.

-- what is found in the document, whose root stands at r
pub record RootFound (text : List ℕ) (r : ℕ) (o : Opening) : Type 0 where
  pub among : o.number ≤ 7
  pub nowhere : (o.number ≡ 0 → ⊥) → o.matrix ≡ 0
  pub there_it_is : o.number ≡ 0 → o.matrix ≡ kid_place (first_child text r)
  pub refused : (o.number ≡ 0 → ⊥) → (n : ℕ) → root_number (the text r) n ≡ o.number
  pub right_root : o.number ≡ 0 → root_wrong (the text r) ≡ false
  pub read_kinds : o.number ≡ 0 → kind_not_read (the text r) ≡ false
  pub shape : o.number ≡ 0 → shape_wrong (the text r) ≡ false
  pub numbers : o.number ≡ 0 → number_wrong (the text r) ≡ false
  pub stands : o.number ≡ 0 → Stands text o.matrix
  pub good : o.number ≡ 0 → Good matrix (the text o.matrix)
  pub maps : o.number ≡ 0 → maps_of (the text r) ≡ matrix_maps (the text o.matrix)
  pub only : o.number ≡ 0 → children "Matrix" (the text r) ≡ the text o.matrix ∷ []
