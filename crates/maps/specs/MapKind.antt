-- A map that passes 6 and 7: of a kind that is read, and good as the row of its kind.
use Rattle.std.specs.Prelude.{◌≡◌, List, [], ◌∷◌}
use Rattle.lists.specs.Lists.{each}
use Rattle.grammar.specs.Document.{Element}
use Rattle.schema.specs.Schema.{Case}
use Rattle.cifti.specs.Rows.{ElementKind}
use Rattle.cifti.specs.Maps.{case_kind, all_kinds, row_for, kind_of_map}
use Rattle.cifti.specs.declared.answer.Kind.{Kind}
use Rattle.maps.specs.Good.{Good}

-- a kind of the list
pub data Among (k : Kind) : List Kind → Type 0 where
  here : {l : List Kind} → Among k (k ∷ l)
  further : {j : Kind} {l : List Kind} → Among k l → Among k (j ∷ l)

pub record RowOf (l : List (Case Kind)) (k : Kind) (r : ElementKind) : Type 0 where
  pub row : row_for k ≡ r
  pub known : Among k (each case_kind l)

-- a MatrixIndicesMap that passes 6 and 7: of a kind, and good as its row
pub record GoodMap (e : Element) : Type 0 where
  pub good : Good (row_for (kind_of_map e)) e
  pub known : Among (kind_of_map e) all_kinds
