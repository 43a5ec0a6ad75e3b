-- Rows over other names of kinds say the same.
use Rattle.std.specs.Prelude.{◌≡◌, Bool, ◌&&◌, ℕ, suc, Option, Some, None}
use Rattle.std.proofs.Math.Path.{refl, ap}
use Rattle.std.proofs.Common.{ap₂, ◌∙◌}
use mathlib.Core.List.{List, [], ◌∷◌}
use Rattle.std.proofs.Math.Bool.{cond, true, false}
use Rattle.lists.specs.Lists.{each, is_some, if_there}
use Rattle.lists.proofs.Laws.Lists.{all_same, all_each, each_each, each_same}
use Rattle.grammar.specs.Document.{Attribute, Element, element, Contents, nothing, child as inside, run}
use Rattle.grammar.specs.Look.{Word, is, name_of, attributes_of, value_in, elements}
use Rattle.schema.specs.Renamed.{case_named, which_named, child_named, row_named}
use Rattle.schema.specs.Schema.{Case, ◌⇒◌, Which, always, chosen, chosen_else, ChildRow, child, Order, any_order, in_order, Row}
use Rattle.schema.specs.Schema.{branch, leaf, kind_among, kind_chosen, or_else, kind_by, kind_of, child_rows, everywhere, everywhere_in}
use Rattle.schema.specs.Schema.{child_shaped, row_place, in_order_of, orderly, children_shaped, shaped, numbered}

module _ {J K : Type 0} (f : J → K) where
  some_named : Option J → Option K
  some_named None = None
  some_named (Some k) = Some (f k)

  among_named : (l : List (Case J)) (v : Word) → kind_among (each (case_named f) l) v ≡ some_named (kind_among l v)
  unfolding kind_among case_named each some_named
  among_named [] v = refl
  among_named (s ⇒ k ∷ l) v = go (is s v) (among_named l v)
    where
      go : (b : Bool) → kind_among (each (case_named f) l) v ≡ some_named (kind_among l v)
          → cond b (Some (f k)) (kind_among (each (case_named f) l) v) ≡ some_named (cond b (Some k) (kind_among l v))
      go true h = refl
      go false h = h

  chosen_named : (l : List (Case J)) (o : Option Word) → kind_chosen (each (case_named f) l) o ≡ some_named (kind_chosen l o)
  unfolding kind_chosen some_named
  chosen_named l None = refl
  chosen_named l (Some v) = among_named l v

  else_named : (k : J) (o : Option J) → or_else (f k) (some_named o) ≡ some_named (or_else k o)
  unfolding or_else some_named
  else_named k None = refl
  else_named k (Some j) = refl

  by_named : (w : Which J) (e : Element) → kind_by (which_named f w) e ≡ some_named (kind_by w e)
  unfolding kind_by which_named some_named
  by_named (always k) e = refl
  by_named (chosen a l) e = chosen_named l (value_in a (attributes_of e))
  by_named (chosen_else a l k) e =
      ap (or_else (f k)) (chosen_named l (value_in a (attributes_of e))) ∙ else_named k (kind_chosen l (value_in a (attributes_of e)))

  kind_named : (r : List (ChildRow J)) (e : Element) → kind_of (each (child_named f) r) e ≡ some_named (kind_of r e)
  unfolding kind_of child_named each some_named
  kind_named [] e = refl
  kind_named (child s t w ∷ r) e = go (is s (name_of e)) (by_named w e) (kind_named r e)
    where
      go : (b : Bool) → kind_by (which_named f w) e ≡ some_named (kind_by w e)
          → kind_of (each (child_named f) r) e ≡ some_named (kind_of r e)
          → cond b (kind_by (which_named f w) e) (kind_of (each (child_named f) r) e) ≡ some_named (cond b (kind_by w e) (kind_of r e))
      go true h k = h
      go false h k = k

  some_same : (o : Option J) → is_some (some_named o) ≡ is_some o
  unfolding is_some some_named
  some_same None = refl
  some_same (Some k) = refl

  child_named_lem : (l : List Element) (r : ChildRow J) → child_shaped l (child_named f r) ≡ child_shaped l r
  unfolding child_shaped child_named
  child_named_lem l (child s t w) = refl

  place_named : (r : List (ChildRow J)) (e : Element) → row_place (each (child_named f) r) e ≡ row_place r e
  unfolding row_place child_named each
  place_named [] e = refl
  place_named (child s t w ∷ r) e = ap (λ p. cond (is s (name_of e)) 0 (suc p)) (place_named r e)

  in_order_lem : (r : List (ChildRow J)) (n : ℕ) (l : List Element) → in_order_of (each (child_named f) r) n l ≡ in_order_of r n l
  unfolding in_order_of
  in_order_lem r n [] = refl
  in_order_lem r n (e ∷ l) = rw (place_named r e, in_order_lem r (row_place r e) l) refl

  order_named : (o : Order) (r : List (ChildRow J)) (l : List Element) → orderly o (each (child_named f) r) l ≡ orderly o r l
  unfolding orderly
  order_named any_order r l = refl
  order_named in_order r l = in_order_lem r 0 l

  children_named : (o : Order) (r : List (ChildRow J)) (l : List Element)
      → children_shaped o (each (child_named f) r) l ≡ children_shaped o r l
  unfolding children_shaped
  children_named o r l = rw (
    all_same (λ e. ap is_some (kind_named r e) ∙ some_same (kind_of r e)) l,
    all_each (child_named f) (child_shaped l) r
        ∙ all_same (child_named_lem l) r,
    order_named o r l,
  ) refl

  pub shaped_named : (r : Row J) (l : List Attribute) (c : Contents) → shaped (row_named f r) l c ≡ shaped r l c
  unfolding shaped row_named
  shaped_named (branch a o r) l c = rw (children_named o r (elements c)) refl
  shaped_named (leaf a t) l c = refl

  pub numbered_named : (r : Row J) (l : List Attribute) (c : Contents) → numbered (row_named f r) l c ≡ numbered r l c
  unfolding numbered row_named
  numbered_named (branch a o r) l c = refl
  numbered_named (leaf a t) l c = refl

  rows_named : (r : Row J) → child_rows (row_named f r) ≡ each (child_named f) (child_rows r)
  unfolding child_rows row_named each
  rows_named (branch a o r) = refl
  rows_named (leaf a t) = refl

  module _ (rows : J → Row J) (rows₁ : K → Row K) (are : (j : J) → rows₁ (f j) ≡ row_named f (rows j))
      (test : Row J → List Attribute → Contents → Bool) (test₁ : Row K → List Attribute → Contents → Bool)
      (tests : (r : Row J) (l : List Attribute) (c : Contents) → test₁ (row_named f r) l c ≡ test r l c) where
    if_named : (e : Element) → ((j : J) → everywhere rows₁ test₁ (f j) e ≡ everywhere rows test j e) → (o : Option J)
        → if_there (λ k. everywhere rows₁ test₁ k e) (some_named o) ≡ if_there (λ j. everywhere rows test j e) o
    unfolding if_there some_named
    if_named e h None = refl
    if_named e h (Some j) = h j

    mutual
      unfolding everywhere

      pub walk_named : (e : Element) (j : J) → everywhere rows₁ test₁ (f j) e ≡ everywhere rows test j e
      walk_named (element n l c w) j = rw (are j, tests (rows j) l c, rows_named (rows j), walk_in c (child_rows (rows j))) refl

      walk_in : (c : Contents) (r : List (ChildRow J))
          → everywhere_in rows₁ test₁ (each (child_named f) r) c ≡ everywhere_in rows test r c
      walk_in nothing r = refl
      walk_in (run w c) r = walk_in c r
      walk_in (inside e c) r = rw (kind_named r e) (ap₂ (λ a b. a && b) (if_named e (λ j. walk_named e j) (kind_of r e)) (walk_in c r))

-- NAMES OF NAMES: a row named anew twice is named anew once.
module _ {I J K : Type 0} (f : I → J) (g : J → K) where
  case_twice : (c : Case I) → case_named g (case_named f c) ≡ case_named (λ i. g (f i)) c
  unfolding case_named
  case_twice (s ⇒ k) = refl

  cases_twice : (l : List (Case I)) → each (case_named g) (each (case_named f) l) ≡ each (case_named (λ i. g (f i))) l
  cases_twice l = each_each (case_named f) (case_named g) l ∙ each_same case_twice l

  which_twice : (w : Which I) → which_named g (which_named f w) ≡ which_named (λ i. g (f i)) w
  unfolding which_named
  which_twice (always k) = refl
  which_twice (chosen a l) = ap (chosen a) (cases_twice l)
  which_twice (chosen_else a l k) = ap (λ c. chosen_else a c (g (f k))) (cases_twice l)

  child_twice : (r : ChildRow I) → child_named g (child_named f r) ≡ child_named (λ i. g (f i)) r
  unfolding child_named
  child_twice (child s t w) = ap (child s t) (which_twice w)

  pub named_twice_lem : (r : Row I) → row_named g (row_named f r) ≡ row_named (λ i. g (f i)) r
  unfolding row_named
  named_twice_lem (branch a o r) = ap (branch a o) (each_each (child_named f) (child_named g) r ∙ each_same child_twice r)
  named_twice_lem (leaf a t) = refl

unfoldable pub renaming : Unit {0}
unfolding case_named which_named child_named row_named
renaming = tt
