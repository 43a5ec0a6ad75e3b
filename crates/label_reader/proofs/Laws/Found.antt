-- THE WAY REACHES THE TABLE OF THE DOCUMENT, where 6, 7 and 8 do not apply: nothing exactly where 18 applies, and else the LabelTable whose
-- keys and names are asked for.
use Rattle.std.specs.Prelude.{◌≡◌, refl, List, [], ◌∷◌, ◌++◌, Bool, true, false, cond, ℕ, zero, suc, ◌≤◌, eqb, ℤ, get_or, Option, Some, None}
use Rattle.std.proofs.Common.{sym, ap, ◌∙◌, subst}
use Rattle.lists.specs.Lists.{all, any, count, those, each, each_in}
use Rattle.lists.proofs.Laws.Booleans.{and_left, and_right, never_some}
use Rattle.grammar.specs.Document.{Element}
use Rattle.grammar.specs.Look.{is, contents_of, elements, children}
use Rattle.grammar.specs.Parser.{same_bytes}
use Rattle.schema.specs.Schema.{child, once, always, child_shaped, stands_so}
use Rattle.cifti.specs.LabelTable.{table_keys, names_with}
use Rattle.cifti.specs.Rows.{ElementKind, cifti, rows, text_leaf, named_map, labelled_map, label_table}
use Rattle.cifti.specs.Maps.{map_of, maps_of, map_elements, kind_of_map, is_labels, is_scalars, has_names, same_kind, row_for}
use Rattle.cifti.specs.Maps.{dimensions_of, tables_in}
use Rattle.cifti.specs.Conditions.{listed_dimensions}
use Rattle.cifti.specs.Labels.{holds_table, no_table, keys_on, tables_on, labels_on}
use Rattle.cifti.specs.declared.answer.Kind.TheVariants.{Scalars, Labels}
use Rattle.maps.proofs.Laws.Good.{row_met}
use Rattle.maps.specs.Good.{Good}
use Rattle.maps.proofs.Laws.Kinds.{root_child}
use Rattle.maps.proofs.Laws.MapKind.{rows_name, names_child, childless}
use Rattle.maps.specs.MapKind.{GoodMap}
use Rattle.maps.proofs.Laws.Ready.{GoodMaps, no_maps, one_map, good_maps}
use Rattle.inside.specs.Way.{step, nth, onward, reached}
use Rattle.map_names.specs.Way.{of_name, in_map}
use Rattle.map_names.proofs.Laws.Held.{OneRow, all_named, scalars_children, labels_children, good_labels, no_named_maps, named_of, named_kind}
use Rattle.map_names.proofs.Laws.Reached.{OnMap, not_held, on_map, FoundIn, none_held, one_held, found_in, told_of, told_in, maps_in_lem}
use Rattle.labels.proofs.Laws.Good.{EachGood, no_good, also_good, those_good, good_named, good_tables}
use Rattle.label_reader.specs.Way.{table_way}

-- ---- A labels map: each of its NamedMaps has one LabelTable.

-- how often a child stands does not ask what it is taken for
same_times : (l : List Element) → child_shaped l (child "LabelTable" once (always label_table))
    ≡ child_shaped l (child "LabelTable" once (always text_leaf))
unfolding child_shaped stands_so
same_times l = refl

one_table : {e : Element} → Good labelled_map e → child_shaped (elements (contents_of e)) (child "LabelTable" once (always label_table)) ≡ true
unfolding rows all
one_table {e} g =
    and_left (child_shaped (elements (contents_of e)) (child "LabelTable" once (always label_table))) _
    (and_right (child_shaped (elements (contents_of e)) (child "MapName" once (always text_leaf))) _ (row_met g _ _ _ refl))

labels_tabled : OneRow "LabelTable" labelled_map
labels_tabled = record { met = λ g. sym (same_times _) ∙ one_table g }

abbrev table_on : (index : ℕ) → Element → Option Element → Type 0
table_on i e o = OnMap "LabelTable" Some None holds_table i e o

on_labels : (i : ℕ) {e : Element} → GoodMap e → is_labels (kind_of_map e) ≡ true → table_on i e (reached (in_map "LabelTable" i) e)
unfolding children holds_table map_of
on_labels i {e} g h =
    let k : kind_of_map e ≡ Labels = same_kind (kind_of_map e) Labels h in
    on_map "LabelTable" Some None holds_table i
    (all_named "LabelTable" labels_tabled (elements (contents_of e)) (labels_children (good_labels g h)))
    (rw k refl)

-- ---- Any other: none of its NamedMaps has one.

data Without : List Element → Type 0 where
  without_none : Without []
  without_one : {e : Element} {l : List Element} → children "LabelTable" e ≡ [] → Without l → Without (e ∷ l)

no_table_there : (e : Element) → children "LabelTable" e ≡ [] → reached (step (of_name "LabelTable") 0 ∷ []) e ≡ None
unfolding reached onward nth children of_name
no_table_there e h = rw h refl

none_reached : (i : ℕ) {l : List Element} → Without l → onward (reached (step (of_name "LabelTable") 0 ∷ [])) (nth i l) ≡ None
unfolding onward nth
none_reached zero without_none = refl
none_reached (suc i) without_none = refl
none_reached zero (without_one {e} h w) = no_table_there e h
none_reached (suc i) (without_one h w) = none_reached i w

tableless : names_child "LabelTable" (rows named_map) ≡ false
unfolding rows names_child rows_name is same_bytes
tableless = refl

all_without : {l : List Element} → EachGood named_map l → Without l
all_without no_good = without_none
all_without (also_good g m) = without_one (childless "LabelTable" g tableless) (all_without m)

scalars_without : {e : Element} → GoodMap e → kind_of_map e ≡ Scalars → Without (children "NamedMap" e)
unfolding children row_for
scalars_without {e} g k =
    all_without (those_good "NamedMap" named_map (named_of named_map) (λ x h p. (named_kind named_map x h).1) (elements (contents_of e))
    (scalars_children (rw k at g.good)))

others_without : {e : Element} → GoodMap e → is_labels (kind_of_map e) ≡ false → Without (children "NamedMap" e)
others_without {e} g f = by (is_scalars (kind_of_map e)) refl
  where
    by : (b : Bool) → is_scalars (kind_of_map e) ≡ b → Without (children "NamedMap" e)
    by true s = scalars_without g (same_kind (kind_of_map e) Scalars s)
    by false s =
        let n : has_names (kind_of_map e) ≡ false = rw (s, f) refl in
        rw (no_named_maps g n) without_none

way_in : (i : ℕ) (e : Element)
    → reached (in_map "LabelTable" i) e ≡ onward (reached (step (of_name "LabelTable") 0 ∷ [])) (nth i (children "NamedMap" e))
unfolding reached in_map children of_name
way_in i e = refl

on_others : (i : ℕ) {e : Element} → GoodMap e → is_labels (kind_of_map e) ≡ false → table_on i e (reached (in_map "LabelTable" i) e)
unfolding holds_table map_of
on_others i {e} g f = rw (way_in i e ∙ none_reached i (others_without g f)) (not_held (rw f refl))

on_any : (i : ℕ) (e : Element) → GoodMap e → table_on i e (reached (in_map "LabelTable" i) e)
on_any i e g = by (is_labels (kind_of_map e)) refl
  where
    by : (b : Bool) → is_labels (kind_of_map e) ≡ b → table_on i e (reached (in_map "LabelTable" i) e)
    by true h = on_labels i g h
    by false h = on_others i g h

-- ---- From the table to its keys and names.

-- an entry of a list, and what is made of it
nth_told : {A : Type 0} (f : Element → A) (z : A) (l : List Element) (i : ℕ) {x : Element} → get_or (each Some l) i None ≡ Some x
    → get_or (each f l) i z ≡ f x
unfolding each
nth_told f z [] i h = never_some h
nth_told f z (a ∷ l) zero {x} h = let q : a ≡ x = cc in ap f q
nth_told f z (a ∷ l) (suc i) h = nth_told f z l i h

each_in_lem : {A : Type 0} (f : Element → A) (g : Element → List Element) (l : List Element)
    → each_in (λ m. each f (g m)) l ≡ each f (each_in g l)
unfolding each each_in
each_in_lem f g [] = refl
each_in_lem {A} f g (a ∷ l) = ap (λ r. each f (g a) ++ r) (each_in_lem f g l) ∙ append (g a) (each_in g l)
  where
    append : (k r : List Element) → each f k ++ each f r ≡ each f (k ++ r)
    append [] r = refl
    append (x ∷ k) r = ap (λ s. f x ∷ s) (append k r)

abbrev lists_it : ℕ → Element → Bool
lists_it d m = any (eqb d) (dimensions_of m)

keys_in : (d : ℕ) (l : List Element)
    → each_in (λ m. m.tables) (those (λ m. any (eqb d) m.dimensions) (each map_of l))
    ≡ each_in (λ e. each table_keys (tables_in e)) (those (lists_it d) l)
unfolding each each_in those map_of
keys_in d [] = refl
keys_in d (e ∷ l) = go (any (eqb d) (dimensions_of e)) (keys_in d l)
  where
    go : (b : Bool)
        → each_in (λ m. m.tables) (those (λ m. any (eqb d) m.dimensions) (each map_of l))
        ≡ each_in (λ x. each table_keys (tables_in x)) (those (lists_it d) l)
        → each_in (λ m. m.tables)
        (cond b (map_of e ∷ those (λ m. any (eqb d) m.dimensions) (each map_of l))
        (those (λ m. any (eqb d) m.dimensions) (each map_of l)))
        ≡ each_in (λ x. each table_keys (tables_in x)) (cond b (e ∷ those (lists_it d) l) (those (lists_it d) l))
    go true h = ap (λ r. each table_keys (tables_in e) ++ r) h
    go false h = h

-- ---- Every table is good.

good_append : {k : ElementKind} {a b : List Element} → EachGood k a → EachGood k b → EachGood k (a ++ b)
good_append no_good h = h
good_append (also_good g m) h = also_good g (good_append m h)

nth_good : {k : ElementKind} {l : List Element} → EachGood k l → (i : ℕ) {x : Element} → get_or (each Some l) i None ≡ Some x
    → Good k x
unfolding each
nth_good no_good i h = never_some h
nth_good {k} (also_good {e} g m) zero {x} h = let q : e ≡ x = cc in subst (λ (y : Element). Good k y) q g
nth_good (also_good g m) (suc i) h = nth_good m i h

of_named : {l : List Element} → EachGood labelled_map l → EachGood label_table (each_in (children "LabelTable") l)
unfolding each_in
of_named no_good = no_good
of_named (also_good g m) = good_append (good_tables g) (of_named m)

of_without : {l : List Element} → Without l → each_in (children "LabelTable") l ≡ []
unfolding each_in
of_without without_none = refl
of_without (without_one h w) = rw (h, of_without w) refl

tables_good : {e : Element} → GoodMap e → EachGood label_table (tables_in e)
unfolding tables_in
tables_good {e} g = by (is_labels (kind_of_map e)) refl
  where
    by : (b : Bool) → is_labels (kind_of_map e) ≡ b → EachGood label_table (each_in (children "LabelTable") (children "NamedMap" e))
    by true h = of_named (good_named (good_labels g h))
    by false h = rw (of_without (others_without g h)) no_good

all_tables : (d : ℕ) {l : List Element} → GoodMaps l → EachGood label_table (each_in tables_in (those (lists_it d) l))
unfolding each_in those
all_tables d no_maps = no_good
all_tables d (one_map {e} {l} g m) = go (any (eqb d) (dimensions_of e)) (all_tables d m)
  where
    go : (b : Bool) → EachGood label_table (each_in tables_in (those (lists_it d) l))
        → EachGood label_table (each_in tables_in (cond b (e ∷ those (lists_it d) l) (those (lists_it d) l)))
    go true h = good_append (tables_good g) h
    go false h = h

tables_on_lem : (d : ℕ) {e : Element} → Good cifti e → EachGood label_table (tables_on d e)
unfolding tables_on
tables_on_lem d {e} g = let o = root_child g in rw (maps_in_lem e o) (all_tables d (good_maps o.good))

-- ---- THE LAW: what the paper says of the table, and what the way reaches.

pub data TableOf (d i : ℕ) (e : Element) : Option Element → Type 0 where
  no_table_lem : no_table d i (maps_of e) ≡ true → TableOf d i e None
  a_table : {t : Element} → no_table d i (maps_of e) ≡ false → keys_on d i (maps_of e) ≡ table_keys t
      → ((k : ℤ) → labels_on d i k e ≡ names_with k t) → Good label_table t → TableOf d i e (Some t)

table_by : (d i : ℕ) {e : Element} → Good cifti e → {o : Option Element} → FoundIn "LabelTable" Some None holds_table d i e o
    → TableOf d i e o
unfolding no_table keys_on tables_on labels_on maps_of told_of told_in tables_in
table_by d i g (none_held h) = no_table_lem (rw h refl)
table_by d i {e} g (one_held {x} h q) =
    let p = each_in_lem Some tables_in (those (lists_it d) (map_elements e)) in
    let there : get_or (each Some (each_in tables_in (those (lists_it d) (map_elements e)))) i None ≡ Some x =
    sym (ap (λ l. get_or l i None) p) ∙ q in
    a_table {t = x} (rw h refl)
    (ap (λ l. get_or l i []) (keys_in d (map_elements e) ∙ each_in_lem table_keys tables_in (those (lists_it d) (map_elements e)))
    ∙ nth_told table_keys [] _ i there)
    (λ k. nth_told (names_with k) [] _ i there) (nth_good (tables_on_lem d g) i there)

pub table_of : (d i : ℕ) {e : Element} → Good cifti e → count (eqb d) (listed_dimensions (maps_of e)) ≤ 1
    → TableOf d i e (reached (table_way d i) e)
unfolding table_way
table_of d i g u = table_by d i g (found_in "LabelTable" Some None holds_table d i (on_any i) g u)
