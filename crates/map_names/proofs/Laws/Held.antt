-- THE NAMES OF A GOOD MAP: one of scalars or labels holds as many as it has NamedMaps, each with one MapName; no other map has a NamedMap.
use Rattle.std.specs.Prelude.{◌≡◌, refl, List, [], ◌∷◌, Bool, true, false, cond, ◌&&◌, ◌||◌, ℕ, ltb, length, replicate, Some, None}
use Rattle.std.proofs.Common.{sym, ◌∙◌, subst, arith, eqb-true, le-ltb}
use Prim.Native.String.{String}
use Rattle.lists.specs.Lists.{all, count, each, those}
use Rattle.lists.proofs.Laws.Booleans.{never_some, and_left}
use Rattle.grammar.specs.Document.{Element}
use Rattle.grammar.specs.Look.{is, name_of, contents_of, elements, children}
use Rattle.grammar.specs.Parser.{same_bytes}
use Rattle.schema.specs.Schema.{ChildRow, child, once, any_times, always, kind_of, kind_by, child_shaped, stands_so}
use Rattle.schema.proofs.Laws.Good.{count_those, single}
use Rattle.cifti.specs.Rows.{ElementKind, rows, text_leaf, scalars, named_map, labels, labelled_map, map_attributes}
use Rattle.cifti.specs.Maps.{map_of, kind_of_map, is_scalars, is_labels, has_names, same_kind, kind_words, case_kind, all_kinds, row_for}
use Rattle.cifti.specs.Maps.{counted_name}
use Rattle.cifti.specs.Names.{holds_name}
use Rattle.cifti.specs.declared.answer.Kind.{Kind}
use Rattle.cifti.specs.declared.answer.Kind.TheVariants.{Scalars, Labels}
use Rattle.maps.proofs.Laws.Good.{GoodAs, good_as, AllGood, none_left, one_good, row_met, good_children}
use Rattle.maps.specs.Good.{Good}
use Rattle.maps.proofs.Laws.MapKind.{of_all, rows_name, names_child, childless}
use Rattle.maps.specs.MapKind.{GoodMap}

-- each of the list has one child of the name
pub data Named (s : String) : List Element → Type 0 where
  no_named : Named s []
  one_named : {e x : Element} {l : List Element} → children s e ≡ x ∷ [] → Named s l → Named s (e ∷ l)

-- ---- A NamedMap has one MapName.

-- a row that has one child of the name
pub record OneRow (s : String) (k : ElementKind) : Type 0 where
  pub met : {e : Element} → Good k e → child_shaped (elements (contents_of e)) (child s once (always text_leaf)) ≡ true

scalars_named : OneRow "MapName" named_map
unfolding rows all
scalars_named = record { met = λ g. and_left _ _ (row_met g _ _ _ refl) }

labels_named : OneRow "MapName" labelled_map
unfolding rows all
labels_named = record { met = λ g. and_left _ _ (row_met g _ _ _ refl) }

one_child : (s : String) {k : ElementKind} → OneRow s k → {e : Element} → Good k e → length (children s e) ≡ 1
unfolding child_shaped stands_so children
one_child s n {e} g =
    let h = eqb-true (count (λ d. is s (name_of d)) (elements (contents_of e))) 1 (n.met g) in
    sym (count_those (λ d. is s (name_of d)) (elements (contents_of e))) ∙ h

-- a map whose children are NamedMaps of one kind
abbrev pub named_of : ElementKind → List (ChildRow ElementKind)
named_of k = child "NamedMap" any_times (always k) ∷ []

pub named_kind : (k : ElementKind) (e : Element) → GoodAs (named_of k) e → (is "NamedMap" (name_of e) ≡ true) × Good k e
unfolding kind_of kind_by
named_kind k e (good_as {k = j} q g) = go (is "NamedMap" (name_of e)) refl q
  where
    go : (b : Bool) → is "NamedMap" (name_of e) ≡ b → cond b (Some k) None ≡ Some j
        → (is "NamedMap" (name_of e) ≡ true) × Good k e
    go true p r = let z : j ≡ k = cc in (p, subst (λ (i : ElementKind). Good i e) z g)
    go false p r = never_some r

pub all_named : (s : String) {k : ElementKind} → OneRow s k → (l : List Element) → AllGood (named_of k) l
    → Named s (those (λ d. is "NamedMap" (name_of d)) l)
unfolding those
all_named s n [] none_left = no_named
all_named s {k} n (e ∷ l) (one_good h m) =
    let (p, g) = named_kind k e h in
    let (x, q) = single (children s e) (one_child s n g) in
    rw p (one_named q (all_named s n l m))

pub scalars_children : {e : Element} → Good scalars e → AllGood (named_of named_map) (elements (contents_of e))
unfolding rows
scalars_children g = good_children g _ _ _ refl

pub labels_children : {e : Element} → Good labels e → AllGood (named_of labelled_map) (elements (contents_of e))
unfolding rows
labels_children g = good_children g _ _ _ refl

-- ---- By the kind of a map.

-- no kind without names has a NamedMap
all_without : each (λ k. cond (has_names k) false (names_child "NamedMap" (rows (row_for k)))) all_kinds ≡ replicate (length all_kinds) false
unfolding all_kinds kind_words case_kind each row_for rows map_attributes names_child rows_name is same_bytes
all_without = refl

pub no_named_maps : {e : Element} → GoodMap e → has_names (kind_of_map e) ≡ false → children "NamedMap" e ≡ []
no_named_maps {e} g b =
    let h = of_all (λ k. cond (has_names k) false (names_child "NamedMap" (rows (row_for k)))) false all_kinds all_without g.known in
    childless "NamedMap" g.good (rw b at h)

-- what the kind of a map says of its NamedMaps
record Holds (k : Kind) (e : Element) : Type 0 where
  named : Named "MapName" (children "NamedMap" e)
  told : (i : ℕ) → (has_names k && ltb i (length (children (counted_name k) e))) ≡ ltb i (length (children "NamedMap" e))

pub good_labels : {e : Element} → GoodMap e → is_labels (kind_of_map e) ≡ true → Good labels e
unfolding row_for
good_labels {e} g h = let k : kind_of_map e ≡ Labels = same_kind (kind_of_map e) Labels h in rw k at g.good

holds : {e : Element} → GoodMap e → Holds (kind_of_map e) e
unfolding children row_for
holds {e} g = go (is_scalars (kind_of_map e)) refl (is_labels (kind_of_map e)) refl
  where
    scalar : kind_of_map e ≡ Scalars → Holds (kind_of_map e) e
    scalar h = record {
      named = all_named "MapName" scalars_named (elements (contents_of e)) (scalars_children (rw h at g.good));
      told = λ i. rw h refl;
    }

    labelled : kind_of_map e ≡ Labels → Good labels e → Holds (kind_of_map e) e
    labelled h q = record { named = all_named "MapName" labels_named (elements (contents_of e)) (labels_children q); told = λ i. rw h refl }

    other : has_names (kind_of_map e) ≡ false → children "NamedMap" e ≡ [] → Holds (kind_of_map e) e
    other f h = record { named = rw h no_named; told = λ i. rw (f, h) (sym (le-ltb i 0 (omega arith))) }

    neither : (b c : Bool) → b ≡ false → c ≡ false → (b || c) ≡ false
    neither b c x y = rw (x, y) refl

    go : (b : Bool) → is_scalars (kind_of_map e) ≡ b → (c : Bool) → is_labels (kind_of_map e) ≡ c → Holds (kind_of_map e) e
    go true h c k = scalar (same_kind (kind_of_map e) Scalars h)
    go false h true k = labelled (same_kind (kind_of_map e) Labels k) (good_labels g k)
    go false h false k = let f = neither (is_scalars (kind_of_map e)) (is_labels (kind_of_map e)) h k in other f (no_named_maps g f)

pub each_named : {e : Element} → GoodMap e → Named "MapName" (children "NamedMap" e)
each_named g = (holds g).named

pub holds_so : {e : Element} → GoodMap e → (i : ℕ) → holds_name i (map_of e) ≡ ltb i (length (children "NamedMap" e))
unfolding holds_name map_of
holds_so g i = (holds g).told i
