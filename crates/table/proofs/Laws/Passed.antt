-- AN ACCEPTED TEXT has a document, and no condition applies to it: its maps are good, each dimension is listed by one of them, and the
-- records hold their stretches.
use Rattle.std.specs.Prelude.{◌≡◌, List, [], ◌∷◌, ◌++◌, Bool, true, false, ◌||◌, ℕ, ◌<◌, ◌≤◌, eqb, length, Option, Some, None}
use Rattle.std.proofs.Math.Path.{refl, sym}
use Rattle.std.proofs.Common.{ap, ◌∙◌, append-nil, eqb-true}
use Rattle.std.proofs.Math.Bool.{not}
use Rattle.std.proofs.Math.ListN.{get_or}
use Rattle.std.proofs.lemmas.Bool.{not-false}
use Rattle.lists.specs.Lists.{any, each, each_in, those, is_some, there}
use Rattle.lists.proofs.Laws.Quantifiers.{count_one_iff}
use Rattle.lists.proofs.Laws.Booleans.{or_left, or_right, both_ways, clash}
use Rattle.lists.proofs.Laws.Refusals.{row_fails, rows_past}
use Rattle.grammar.specs.Bytes.{between}
use Rattle.grammar.specs.Document.{Element}
use Rattle.grammar.specs.Grammar.{Writes}
use Rattle.grammar.proofs.Laws.Facts.{within}
use Rattle.grammar.specs.Look.{contents_of, elements, children}
use Rattle.cifti.specs.Rows.{cifti, matrix}
use Rattle.cifti.specs.Maps.{Map, map_of, map_elements, maps_of, length_of}
use Rattle.cifti.specs.Conditions.{lengths_wrong, no_document, shape_wrong, number_wrong, listed_dimensions, dimensions_wrong, length_wrong}
use Rattle.cifti.specs.Conditions.{of_maps, conditions_of_header, conditions_of_table, conditions, refusal}
use Rattle.cifti.specs.Text.{DocumentOf, written, unwritten}
use Rattle.cifti.specs.Answer.{maps_in, accepted_with, answer_by, records_by, filled_with, stretches, answer_to, records_after, Reads}
use Rattle.cifti.proofs.Laws.Smallest.{refusal_none}
use Rattle.cifti.proofs.Laws.Text.{answers_of}
use Rattle.cifti.proofs.Laws.Theorems.{answer_number}
use Rattle.cifti.proofs.Laws.Meaning.{listing_iff}
use Rattle.cifti.specs.declared.answer.Answer.{Answer}
use Rattle.maps.specs.Good.{Good}
use Rattle.maps.proofs.Laws.Kinds.{OnlyChild, root_child}
use Rattle.maps.specs.MapKind.{GoodMap}
use Rattle.maps.proofs.Laws.Ready.{GoodMaps, no_maps, one_map, good_maps}
use Rattle.models.specs.Fine.{Fine, FineMap}
use Rattle.models.proofs.Laws.Fine.{fine_first, fine_rest}
use Rattle.table.specs.Located.{map_lists}
use Rattle.table.proofs.Laws.Alone.{Alone, alone, fails_at, once_in}

-- ---- What no condition applies to.

pub record Passed (lengths : List ℕ) (e : Element) : Type 0 where
  pub lengths_right : lengths_wrong lengths ≡ false
  pub good : Good cifti e
  pub once : dimensions_wrong lengths (maps_of e) ≡ false
  pub agree : length_wrong lengths (maps_of e) ≡ false
  pub fine : Fine (maps_of e)

passed : (lengths : List ℕ) (size room work : ℕ) (e : Element) → refusal lengths size room work (Some e) ≡ 0 → Passed lengths e
unfolding conditions conditions_of_header conditions_of_table of_maps there shape_wrong number_wrong
passed lengths size room work e h =
    let n = refusal_none lengths size room work (Some e) h in
    record {
      lengths_right = row_fails n;
      good = record { shape = not-false _ (row_fails (rows_past 5 n)); number = not-false _ (row_fails (rows_past 6 n)) };
      once = row_fails (rows_past 7 n);
      agree = row_fails (rows_past 8 n);
      fine = record {
        share = row_fails (rows_past 9 n);
        ranges = row_fails (rows_past 10 n);
        inside = row_fails (rows_past 11 n);
      };
    }

never_none : (lengths : List ℕ) (size room work : ℕ) → refusal lengths size room work None ≡ 0 → ⊥
unfolding conditions conditions_of_header no_document is_some
never_none lengths size room work h =
    both_ways refl (row_fails (rows_past 2 (refusal_none lengths size room work None h)))

-- ---- An accepted text.

pub record AcceptedText (text lengths records : List ℕ) (a : Answer) (after : List ℕ) : Type 0 where
  pub document : Element
  pub writes : Writes document text
  pub passes : Passed lengths document
  pub answered : a ≡ accepted_with (maps_of document)
  pub filled : after ≡ filled_with (stretches (maps_of document)) records

module _ {text lengths records work : List ℕ} {a : Answer} {after cleared : List ℕ}
    (r : Reads text lengths records work a after cleared) (yes : a.number ≡ 0) where
  zero_is : (d : Option Element) → a ≡ answer_to lengths (length records) (length work) (length text) d
      → refusal lengths (length text) (length records) (length work) d ≡ 0
  unfolding answer_to
  zero_is d h = sym (answer_number _ d) ∙ sym (ap (λ (x : Answer). x.number) h) ∙ yes

  answered_is : (e : Element) → a ≡ answer_to lengths (length records) (length work) (length text) (Some e)
      → a ≡ accepted_with (maps_of e)
  unfolding answer_to answer_by maps_in
  answered_is e h = h ∙ rw (zero_is (Some e) h) refl

  filled_is : {e : Element} → Writes e text → refusal lengths (length text) (length records) (length work) (Some e) ≡ 0
      → after ≡ filled_with (stretches (maps_of e)) records
  unfolding records_by maps_in records_after
  filled_is w z = answers_of r.filled w ∙ rw z refl

  by_document : {d : Option Element} → DocumentOf text d → a ≡ answer_to lengths (length records) (length work) (length text) d
      → AcceptedText text lengths records a after
  by_document (written {e} w) h = record {
    document = e;
    writes = w;
    passes = passed lengths _ _ _ e (zero_is (Some e) h);
    answered = answered_is e h;
    filled = filled_is w (zero_is (Some e) h);
  }
  by_document (unwritten f) h = absurd (never_none lengths _ _ _ (zero_is None h))

  pub accepted_text : AcceptedText text lengths records a after
  accepted_text = by_document r.answered.of r.answered.answered

-- ---- Its maps.

maps_in_lem : (e : Element) (o : OnlyChild "Matrix" matrix (elements (contents_of e))) → map_elements e ≡ children "MatrixIndicesMap" o.one
unfolding map_elements each_in children those
maps_in_lem e o = rw (o.alone, o.name) (append-nil (children "MatrixIndicesMap" o.one))

pub maps_good : {e : Element} → Good cifti e → GoodMaps (map_elements e)
maps_good {e} g = let o = root_child g in rw (maps_in_lem e o) (good_maps o.good)

-- a map of a good element
pub record GoodOf (m : Map) : Type 0 where
  pub element : Element
  pub good : GoodMap element
  pub is_of : m ≡ map_of element

good_at : {l : List Element} → GoodMaps l → (k : List Map) (m : Map) (r : List Map) → each map_of l ≡ k ++ (m ∷ r) → GoodOf m
unfolding each
good_at no_maps [] m r h = clash (cc)
good_at no_maps (x ∷ k) m r h = clash (cc)
good_at (one_map {e} g s) [] m r h = record { element = e; good = g; is_of = cc }
good_at (one_map g s) (x ∷ k) m r h = good_at s k m r (cc)

fine_at : (k : List Map) (m : Map) (r : List Map) → Fine (k ++ (m ∷ r)) → FineMap m
fine_at [] m r f = fine_first f
fine_at (x ∷ k) m r f = fine_at k m r (fine_rest f)

-- a number of a list at which all that it lists agree
agrees : (n d : ℕ) (f : ℕ → ℕ) (l : List ℕ) → any (eqb d) l ≡ true → any (λ x. not (eqb n (f x))) l ≡ false → n ≡ f d
unfolding any
agrees n d f [] t h = both_ways t refl
agrees n d f (x ∷ l) t h = go (eqb d x) refl t (or_left (not (eqb n (f x))) _ h)
    (λ s. agrees n d f l s (or_right (not (eqb n (f x))) _ h))
  where
    go : (b : Bool) → eqb d x ≡ b → (b || any (eqb d) l) ≡ true → not (eqb n (f x)) ≡ false
        → (any (eqb d) l ≡ true → n ≡ f d) → n ≡ f d
    go true e s u v = eqb-true n (f x) (not-false _ u) ∙ ap f (sym (eqb-true d x e))
    go false e s u v = v s

module _ {lengths : List ℕ} {e : Element} (p : Passed lengths e) where
  pub at_most_three : length lengths ≤ 3
  unfolding lengths_wrong
  at_most_three = (within 2 3 (length lengths) (not-false (between 2 3 (length lengths)) (or_left _ _ p.lengths_right))).1

  -- exactly one map lists the dimension
  pub one_lists : (d : ℕ) → d < length lengths → Alone (map_lists d) (maps_of e)
  unfolding listed_dimensions
  one_lists d u = alone (map_lists d) (maps_of e) (once_in (eqb d) (λ m. m.dimensions) (maps_of e)
      ((count_one_iff 0 (eqb d) (listed_dimensions (maps_of e))).1 (((listing_iff lengths (maps_of e)).0 p.once).one d u)))

  module _ (k : List Map) (m : Map) (r : List Map) (split : maps_of e ≡ k ++ (m ∷ r)) where
    pub map_good : GoodOf m
    unfolding maps_of
    map_good = good_at (maps_good p.good) k m r split

    pub map_fine : FineMap m
    map_fine = fine_at k m r (rw split at p.fine)

    -- it is as long as the dimension
    pub map_length : (d : ℕ) → map_lists d m ≡ true → length_of m ≡ get_or lengths d 0
    unfolding length_wrong
    map_length d t = agrees (length_of m) d (λ x. get_or lengths x 0) m.dimensions t
        (fails_at (λ x. any (λ y. not (eqb (length_of x) (get_or lengths y 0))) x.dimensions) k m r (rw split at p.agree))
