-- The walk of `Schema`, one element at a time: its test, then the walk at each child. This is the form that a loop over children meets.
use Rattle.std.specs.Prelude.{◌≡◌, List, Bool, ◌&&◌}
use Rattle.std.proofs.Math.Path.{refl, ap}
use Rattle.lists.specs.Lists.{all}
use Rattle.grammar.specs.Document.{Attribute, Element, element, Contents, nothing, child as inside, run}
use Rattle.grammar.specs.Look.{elements, contents_of, attributes_of}
use Rattle.schema.specs.Schema.{Row, ChildRow, child_rows, everywhere, everywhere_in}
use Rattle.schema.specs.Walk.{at_child}

module _ {K : Type 0} (rows : K → Row K) (test : Row K → List Attribute → Contents → Bool) where
  walk_in : (r : List (ChildRow K)) (c : Contents) → everywhere_in rows test r c ≡ all (at_child rows test r) (elements c)
  unfolding everywhere_in all elements at_child
  walk_in r nothing = refl
  walk_in r (run w c) = walk_in r c
  walk_in r (inside e c) = ap (λ b. at_child rows test r e && b) (walk_in r c)

  pub walk_step : (k : K) (e : Element)
      → everywhere rows test k e ≡ (test (rows k) (attributes_of e) (contents_of e)
      && all (at_child rows test (child_rows (rows k))) (elements (contents_of e)))
  unfolding everywhere attributes_of contents_of
  walk_step k (element n l c w) = ap (λ b. test (rows k) l c && b) (walk_in (child_rows (rows k)) c)
