-- The walk of `Schema` at a child. `WalkStep` says that the walk is the test of an element, and this at each child.
use Rattle.std.specs.Prelude.{List, Bool}
use Rattle.lists.specs.Lists.{if_there}
use Rattle.grammar.specs.Document.{Attribute, Element, Contents}
use Rattle.schema.specs.Schema.{Row, ChildRow, kind_of, everywhere}

module _ {K : Type 0} (rows : K → Row K) (test : Row K → List Attribute → Contents → Bool) where
  -- the walk at a child, by the kind that its parent's rows give it
  unfoldable pub at_child : List (ChildRow K) → Element → Bool
  at_child r e = if_there (λ k. everywhere rows test k e) (kind_of r e)
