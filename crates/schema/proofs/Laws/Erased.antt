-- The walk does not look at the bytes between the tags as written: it answers the same on the document without them.
use Rattle.std.specs.Prelude.{◌≡◌, Bool, ◌&&◌, ℕ, Option, Some, None}
use Rattle.std.proofs.Math.Path.{refl}
use Rattle.std.proofs.Common.{ap, ap₂, ◌∙◌}
use mathlib.Core.List.{List, [], ◌∷◌}
use Prim.Native.String.{String}
use Rattle.lists.specs.Lists.{all, any, count, each, is_some, if_there}
use Rattle.lists.proofs.Laws.Lists.{any_same, all_same, count_same, any_each, all_each, count_each, length_each}
use Rattle.grammar.specs.Document.{Attribute, Element, element, Contents, nothing, child as inside, run}
use Rattle.grammar.specs.Look.{is, name_of, elements}
use Rattle.grammar.proofs.Laws.Plain.{plain, plain_in, name_erased, attributes_erased, elements_erased, characters_erased}
use Rattle.schema.specs.Schema.{Times, once, at_most_once, any_times, at_least_once, needed_below, Which, always, chosen, chosen_else}
use Rattle.schema.specs.Schema.{ChildRow, child, Order, any_order, in_order, Row, branch, leaf, kind_by, kind_of, child_rows, everywhere}
use Rattle.schema.specs.Schema.{everywhere_in, below, below_in, stands_so, child_shaped, row_place, in_order_of, orderly, children_shaped}
use Rattle.schema.specs.Schema.{shaped, numbered}

-- ---- How often a child stands.

named : (s : String) (l : List Element) → count (λ e. is s (name_of e)) (each plain l) ≡ count (λ e. is s (name_of e)) l
named s l = count_each plain (λ e. is s (name_of e)) l ∙ count_same (λ e. ap (is s) (name_erased e)) l

mutual
  unfolding below plain

  pub below_erased : (s : String) (e : Element) → below s (plain e) ≡ below s e
  below_erased s (element n l c w) = below_erased_in s c

  below_erased_in : (s : String) (c : Contents) → below_in s (plain_in c) ≡ below_in s c
  below_erased_in s nothing = refl
  below_erased_in s (run w c) = below_erased_in s c
  below_erased_in s (inside e c) = rw (name_erased e, below_erased s e, below_erased_in s c) refl

any_below : (s : String) (l : List Element) → any (below s) (each plain l) ≡ any (below s) l
any_below s l = any_each plain (below s) l ∙ any_same (below_erased s) l

stands : (t : Times) (n : ℕ) (l : List Element) → stands_so t n (each plain l) ≡ stands_so t n l
unfolding stands_so
stands once n l = refl
stands at_most_once n l = refl
stands any_times n l = refl
stands at_least_once n l = refl
stands (needed_below s) n l = rw (any_below s l) refl

-- ---- The kind of a child, and the two tests.

module _ {K : Type 0} where
  by_erased : (w : Which K) (e : Element) → kind_by w (plain e) ≡ kind_by w e
  unfolding kind_by
  by_erased (always k) e = refl
  by_erased (chosen a l) e = rw (attributes_erased e) refl
  by_erased (chosen_else a l k) e = rw (attributes_erased e) refl

  pub kind_erased : (r : List (ChildRow K)) (e : Element) → kind_of r (plain e) ≡ kind_of r e
  unfolding kind_of
  kind_erased [] e = refl
  kind_erased (child s t w ∷ r) e = rw (name_erased e, by_erased w e, kind_erased r e) refl

  child_erased : (l : List Element) (r : ChildRow K) → child_shaped (each plain l) r ≡ child_shaped l r
  unfolding child_shaped
  child_erased l (child s t w) = rw (named s l) (stands t (count (λ e. is s (name_of e)) l) l)

  place_erased : (r : List (ChildRow K)) (e : Element) → row_place r (plain e) ≡ row_place r e
  unfolding row_place
  place_erased [] e = refl
  place_erased (child s t w ∷ r) e = rw (name_erased e, place_erased r e) refl

  in_order_lem : (r : List (ChildRow K)) (n : ℕ) (l : List Element) → in_order_of r n (each plain l) ≡ in_order_of r n l
  unfolding in_order_of each
  in_order_lem r n [] = refl
  in_order_lem r n (e ∷ l) = rw (place_erased r e, in_order_lem r (row_place r e) l) refl

  order_erased : (o : Order) (r : List (ChildRow K)) (l : List Element) → orderly o r (each plain l) ≡ orderly o r l
  unfolding orderly
  order_erased any_order r l = refl
  order_erased in_order r l = in_order_lem r 0 l

  all_kinds : (r : List (ChildRow K)) (l : List Element) → all (λ e. is_some (kind_of r e)) (each plain l) ≡ all (λ e. is_some (kind_of r e)) l
  all_kinds r l = all_each plain (λ e. is_some (kind_of r e)) l ∙ all_same (λ e. ap is_some (kind_erased r e)) l

  children_shaped_lem : (o : Order) (r : List (ChildRow K)) (l : List Element) → children_shaped o r (each plain l) ≡ children_shaped o r l
  unfolding children_shaped
  children_shaped_lem o r l = rw (all_kinds r l, all_same (child_erased l) r, order_erased o r l) refl

  pub shaped_erased : (r : Row K) (l : List Attribute) (c : Contents) → shaped r l (plain_in c) ≡ shaped r l c
  unfolding shaped
  shaped_erased (branch a o r) l c = rw (characters_erased c, elements_erased c, children_shaped_lem o r (elements c)) refl
  shaped_erased (leaf a t) l c = rw (elements_erased c, length_each plain (elements c)) refl

  pub numbered_erased : (r : Row K) (l : List Attribute) (c : Contents) → numbered r l (plain_in c) ≡ numbered r l c
  unfolding numbered
  numbered_erased (branch a o r) l c = refl
  numbered_erased (leaf a t) l c = rw (characters_erased c) refl

-- ---- The walk.

module _ {K : Type 0} (rows : K → Row K) (test : Row K → List Attribute → Contents → Bool)
    (blind : (r : Row K) (l : List Attribute) (c : Contents) → test r l (plain_in c) ≡ test r l c) where
  child_same : (e : Element) → ((k : K) → everywhere rows test k (plain e) ≡ everywhere rows test k e)
      → (o : Option K) → if_there (λ k. everywhere rows test k (plain e)) o ≡ if_there (λ k. everywhere rows test k e) o
  unfolding if_there
  child_same e h None = refl
  child_same e h (Some k) = h k

  mutual
    unfolding everywhere plain

    pub walk_erased : (e : Element) (k : K) → everywhere rows test k (plain e) ≡ everywhere rows test k e
    walk_erased (element n l c w) k = ap₂ (λ a b. a && b) (blind (rows k) l c) (walk_erased_in c (child_rows (rows k)))

    walk_erased_in : (c : Contents) (r : List (ChildRow K)) → everywhere_in rows test r (plain_in c) ≡ everywhere_in rows test r c
    walk_erased_in nothing r = refl
    walk_erased_in (run w c) r = walk_erased_in c r
    walk_erased_in (inside e c) r =
        rw (kind_erased r e) (ap₂ (λ a b. a && b) (child_same e (λ k. walk_erased e k) (kind_of r e)) (walk_erased_in c r))
