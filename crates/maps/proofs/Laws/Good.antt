-- A DOCUMENT THAT PASSES 6 AND 7, going down: schema's laws of good elements, by CIFTI's rows.
use Rattle.std.specs.Prelude.{List}
use Rattle.grammar.specs.Document.{Element}
use Rattle.schema.specs.Schema.{ChildRow}
use Rattle.schema.proofs.Laws.Good as good
use Rattle.cifti.specs.Rows.{ElementKind, rows}
use Rattle.maps.specs.Good.{Good}
pub use Rattle.schema.proofs.Laws.Good.{good_as, none_left, one_good, good_head, good_tail, shape_here, number_here, good_children, row_met}
pub use Rattle.schema.proofs.Laws.Good.{attributes_shape, attributes_number, required_number, required_word}

-- a child that its parent's rows know, good as what they take it for
abbrev pub GoodAs : List (ChildRow ElementKind) → Element → Type 0
GoodAs r e = good.GoodAs rows r e

abbrev pub AllGood : List (ChildRow ElementKind) → List Element → Type 0
AllGood r l = good.AllGood rows r l
