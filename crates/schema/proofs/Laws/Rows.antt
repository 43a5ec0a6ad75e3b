-- The walk at an element: its own part, how often its children stand, and each of them.
use Rattle.std.specs.Prelude.{◌≡◌, Bool, ◌&&◌, eqb, length}
use Rattle.std.proofs.Math.Path.{refl, ap, sym}
use Rattle.std.proofs.Common.{◌∙◌, arith, ne_eqb}
use mathlib.Core.List.{List, [], ◌∷◌}
use Rattle.std.proofs.Math.Bool.{true, false}
use Prim.Native.Nat.{ℕ, zero, suc, ◌-◌}
use Rattle.lists.specs.Lists.{all, any, count_up, is_some}
use Rattle.grammar.specs.Bytes.{blank}
use Rattle.grammar.specs.Document.{Attribute, Element, Contents}
use Rattle.grammar.specs.Look.{attributes_of, contents_of, elements, characters, text_of}
use Rattle.schema.specs.Schema.{AttributeRow, ChildRow, child_rows, Order, any_order, in_order, is_named, attributes_shaped}
use Rattle.schema.specs.Schema.{attribute_shaped}
use Rattle.schema.specs.Schema.{attribute_numbered, children_shaped, orderly, in_order_of, kind_of, shaped, numbered, everywhere}
use Rattle.schema.specs.Walk.{at_child}
use Rattle.schema.proofs.Laws.WalkStep.{walk_step}
use Rattle.schema.specs.Table.{text_at, order_at, order_by, row_by, rows_of, attributes_of_kind, lines_of_kind, lines_from, lines_to}
use Rattle.schema.specs.Faults.{fault, sooner, fault_of}
use Rattle.schema.specs.Parts.{named_only, attributes_fault, text_shaped, text_numbered, text_fault, own_fault, times_right, order_right}
use Rattle.schema.specs.Parts.{frame_right, kid_shaped, kids_fault}
use Rattle.lists.proofs.Laws.Booleans.{and_true}
use Rattle.schema.proofs.Laws.Faults.{fault_and}

no_children : (o : Order) (l : List Element) → eqb (length l) 0 ≡ children_shaped {K = ℕ} o [] l
unfolding children_shaped orderly in_order_of all kind_of is_some
no_children any_order [] = refl
no_children in_order [] = refl
no_children o (e ∷ l) = rw (ne_eqb (suc (length l)) 0 (λ h. omega arith))

module _ (t l : List ℕ) (o : ℕ) (a : List AttributeRow) (xs : List Attribute) (c : Contents) where
  by_shape : (x : ℕ) (r : List (ChildRow ℕ)) → child_rows (row_by t l x o a r) ≡ r
      → shaped (row_by t l x o a r) xs c
      ≡ ((attributes_shaped a xs && text_shaped x (characters c)) && children_shaped (order_by o) r (elements c))
  unfolding row_by shaped text_shaped child_rows
  by_shape zero r e = go (attributes_shaped a xs)
    where
      go : (x : Bool)
          → (x && (all blank (characters c) && children_shaped (order_by o) r (elements c)))
          ≡ ((x && all blank (characters c)) && children_shaped (order_by o) r (elements c))
      go true = refl
      go false = refl
  by_shape (suc x) r e =
      rw (← e) (ap (λ x. attributes_shaped a xs && x) (no_children (order_by o) (elements c))
      ∙ ap (λ x. x && children_shaped {K = ℕ} (order_by o) [] (elements c)) (sym (and_true (attributes_shaped a xs))))

  by_number : (x : ℕ) (r : List (ChildRow ℕ))
      → numbered (row_by t l x o a r) xs c ≡ (all (attribute_numbered xs) a && text_numbered t x (characters c))
  unfolding row_by numbered text_numbered
  by_number zero r = sym (and_true _)
  by_number (suc x) r = refl

row_lines : (t l : List ℕ) (x o : ℕ) (a : List AttributeRow) (r : List (ChildRow ℕ)) → ((x ≡ 0 → ⊥) → r ≡ [])
    → child_rows (row_by t l x o a r) ≡ r
unfolding row_by child_rows
row_lines t l zero o a r h = refl
row_lines t l (suc x) o a r h = sym (h (λ e. omega arith))

no_lines : (t l : List ℕ) (k : ℕ) → (text_at t k ≡ 0 → ⊥) → lines_of_kind t l k ≡ []
unfolding lines_of_kind lines_to count_up
no_lines t l k h = let z : lines_from t k - lines_from t k ≡ 0 = omega arith in rw (ne_eqb (text_at t k) 0 h, z)

lines_are : (t l : List ℕ) (k : ℕ) → child_rows (rows_of t l k) ≡ lines_of_kind t l k
unfolding rows_of
lines_are t l k = row_lines t l (text_at t k) (order_at t k) (attributes_of_kind t l k) (lines_of_kind t l k) (no_lines t l k)

all_both : {A : Type 0} (p q : A → Bool) (l : List A) → all (λ a. p a && q a) l ≡ (all p l && all q l)
unfolding all
all_both p q [] = refl
all_both p q (a ∷ l) = ap (λ x. (p a && q a) && x) (all_both p q l) ∙ go (p a) (q a) (all p l) (all q l)
  where
    go : (a b c d : Bool) → ((a && b) && (c && d)) ≡ ((a && c) && (b && d))
    go true true c d = refl
    go true false true d = refl
    go true false false d = refl
    go false b c d = refl

arranged : (n f t k m s : Bool) → ((((n && f) && t) && (k && m)) && s) ≡ ((n && (f && true)) && ((t && m) && (k && s)))
arranged true true true true true s = refl
arranged true true true true false s = refl
arranged true true true false true s = refl
arranged true true true false false s = refl
arranged true true false k m s = refl
arranged true false t k m s = refl
arranged false f t k m s = refl

arranged_with : (n f t k m s x : Bool) → x ≡ (k && s) → ((((n && f) && t) && (k && m)) && s) ≡ ((n && (f && true)) && ((t && m) && x))
arranged_with n f t k m s x e = rw e (arranged n f t k m s)

module _ (t l : List ℕ) (k : ℕ) (e : Element) where
  abbrev kids : List Element
  kids = elements (contents_of e)

  shape_parts : everywhere (rows_of t l) shaped k e
      ≡ ((named_only (attributes_of_kind t l k) (attributes_of e) && (all (attribute_shaped (attributes_of e)) (attributes_of_kind t l k) && true))
      && (frame_right t l k e && all (kid_shaped t l k) kids))
  unfolding rows_of attributes_shaped children_shaped named_only frame_right times_right order_right kid_shaped text_of
  shape_parts =
      walk_step (rows_of t l) shaped k e
      ∙ rw (
        lines_are t l k,
        by_shape t l (order_at t k) (attributes_of_kind t l k) (attributes_of e) (contents_of e) (text_at t k)
            (lines_of_kind t l k) (lines_are t l k),
      )
      (arranged_with (all (λ a. any (is_named a) (attributes_of_kind t l k)) (attributes_of e))
      (all (attribute_shaped (attributes_of e)) (attributes_of_kind t l k)) (text_shaped (text_at t k) (characters (contents_of e)))
      (all (λ e. is_some (kind_of (lines_of_kind t l k) e)) kids) (times_right t l k kids && order_right t l k kids)
      (all (at_child (rows_of t l) shaped (lines_of_kind t l k)) kids)
      (all (kid_shaped t l k) kids) (all_both (λ e. is_some (kind_of (lines_of_kind t l k) e))
      (at_child (rows_of t l) shaped (lines_of_kind t l k)) kids))

  number_parts : everywhere (rows_of t l) numbered k e
      ≡ ((all (attribute_numbered (attributes_of e)) (attributes_of_kind t l k) && text_numbered t (text_at t k) (text_of e))
      && all (at_child (rows_of t l) numbered (lines_of_kind t l k)) kids)
  unfolding rows_of text_of
  number_parts =
      walk_step (rows_of t l) numbered k e
      ∙ rw (
        lines_are t l k,
        by_number t l (order_at t k) (attributes_of_kind t l k) (attributes_of e) (contents_of e) (text_at t k)
            (lines_of_kind t l k),
      )

  -- THE LAW OF THE WALK
  pub fault_parts : fault_of t l k e ≡ sooner (own_fault t l k e) (sooner (fault (frame_right t l k e) true) (kids_fault t l k kids))
  unfolding fault_of own_fault attributes_fault text_fault kids_fault
  fault_parts =
      rw (
        shape_parts,
        number_parts,
        ← fault_and (all (attribute_shaped (attributes_of e)) (attributes_of_kind t l k)) true
            (all (attribute_numbered (attributes_of e)) (attributes_of_kind t l k)) (text_numbered t (text_at t k) (text_of e)),
        ← fault_and (named_only (attributes_of_kind t l k) (attributes_of e))
            (all (attribute_shaped (attributes_of e)) (attributes_of_kind t l k) && true) true
            (all (attribute_numbered (attributes_of e)) (attributes_of_kind t l k) && text_numbered t (text_at t k) (text_of e)),
        ← fault_and (frame_right t l k e) (all (kid_shaped t l k) kids) true (all (at_child (rows_of t l) numbered (lines_of_kind t l k)) kids),
      )
      (fault_and _ _ _ _)
