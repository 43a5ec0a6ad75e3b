-- THE WAY REACHES THE NAME OF THE DOCUMENT, where 6, 7 and 8 do not apply: nothing exactly where 18 applies,
-- and else the element that the name is written in. The same is said of any child that a NamedMap has once.
use Rattle.std.specs.Prelude.{◌≡◌, Bool, cond, not, ◌&&◌, eqb, ltb, Option, Some, None}
use Rattle.std.proofs.Math.Path.{refl, ap}
use Rattle.std.proofs.Common.{◌∙◌, arith}
use mathlib.Core.List.{List, [], ◌∷◌, append-nil}
use Rattle.std.proofs.Math.Bool.{true, false}
use Prim.Native.Nat.{ℕ, zero, suc, ◌+◌, ◌≤◌, ◌<◌}
use Prim.Native.String.{String}
use Rattle.std.proofs.Math.Decide.{dec_lt, ℕ_discrete}
use Rattle.std.proofs.Math.ListN.{length, get_or, get_or-append}
use borrow.Author.Tests.{eqb-true, lt-ltb, le-ltb}
use Rattle.lists.specs.Lists.{any, count, each, each_in, those, all_below}
use Rattle.lists.proofs.Laws.Lists.{none_counted, count_append}
use Rattle.lists.proofs.Laws.Quantifiers.{all_below_iff}
use Rattle.lists.proofs.Laws.Booleans.{both_ways}
use Rattle.grammar.specs.Document.{Element}
use Rattle.grammar.specs.Look.{is, name_of, contents_of, within_of, elements, children}
use Rattle.cifti.specs.Rows.{cifti, matrix}
use Rattle.cifti.specs.Maps.{Map, map_of, maps_of, dimensions_of, map_elements}
use Rattle.cifti.specs.Conditions.{listed_dimensions, dimensions_wrong}
use Rattle.cifti.specs.Names.{holds_name, no_name, names_on}
use Rattle.cifti.proofs.Laws.Meaning.{split}
use Rattle.maps.specs.Good.{Good}
use Rattle.maps.proofs.Laws.Kinds.{OnlyChild, root_child}
use Rattle.maps.proofs.Laws.MapKind.{map_dimensions}
use Rattle.maps.specs.MapKind.{GoodMap}
use Rattle.maps.proofs.Laws.Ready.{GoodMaps, no_maps, one_map, good_maps}
use Rattle.maps.proofs.Laws.Listed.{any_some}
use Rattle.inside.specs.Way.{WayStep, step, nth, onward, reached}
use Rattle.map_names.specs.Way.{of_name, lists_dimension, map_that_lists, in_map, way_in_map, name_way}
use Rattle.map_names.proofs.Laws.Held.{Named, no_named, one_named, each_named, holds_so}

-- ---- Condition 8 does not apply: no dimension is listed twice.

pub listed_once : (lengths : List ℕ) (l : List Map) → dimensions_wrong lengths l ≡ false → (d : ℕ) → count (eqb d) (listed_dimensions l) ≤ 1
unfolding dimensions_wrong
listed_once lengths l h d = by (dec_lt d (length lengths)) (ℕ_discrete (count (eqb d) listed) 0)
  where
    listed : List ℕ
    listed = listed_dimensions l

    once : ℕ → Bool
    once k = eqb (count (eqb k) listed) 1

    past : ℕ → Bool
    past k = not (ltb k (length lengths))

    both : (all_below (length lengths) once ≡ true) × (any past listed ≡ false)
    both = split (all_below (length lengths) once) (any past listed) h

    by : Dec (d < length lengths) → Dec (count (eqb d) listed ≡ 0) → count (eqb d) listed ≤ 1
    by (yes u) z = let e = eqb-true (count (eqb d) listed) 1 ((all_below_iff (length lengths) once).0 both.0 d u) in omega arith
    by (no u) (yes z) = omega arith
    by (no u) (no z) =
        let p : past d ≡ true = ap not (le-ltb d (length lengths) (omega arith)) in
        both_ways (any_some past d listed p z) both.1

-- ---- Numbers that a dimension is listed.

pub some_counted : (p : ℕ → Bool) (l : List ℕ) → any p l ≡ true → 1 ≤ count p l
some_counted p l h = go (ℕ_discrete (count p l) 0)
  where
    go : Dec (count p l ≡ 0) → 1 ≤ count p l
    go (yes z) = both_ways h (none_counted p l z)
    go (no z) = omega arith

abbrev pub lists_it : ℕ → Element → Bool
lists_it d m = any (eqb d) (dimensions_of m)

pub dimensions_split : (d : ℕ) (e : Element) (l : List Element)
    → count (eqb d) (listed_dimensions (each map_of (e ∷ l)))
    ≡ count (eqb d) (dimensions_of e) + count (eqb d) (listed_dimensions (each map_of l))
unfolding each listed_dimensions each_in map_of
dimensions_split d e l = count_append (eqb d) (dimensions_of e) (listed_dimensions (each map_of l))

-- ---- In a map: the NamedMap of the index, and its child of a name. `f` is what is told of that child, and `held` whether a map holds
-- such a child of an index.

module _ {A : Type 0} (s : String) (f : Element → A) (z : A) (held : ℕ → Map → Bool) where
  abbrev the_child : List WayStep
  the_child = step (of_name s) 0 ∷ []

  unfoldable pub told_in : List Element → List A
  told_in l = each f (each_in (children s) l)

  unfoldable pub told_of : Element → List A
  told_of e = told_in (children "NamedMap" e)

  data InNamed (i : ℕ) (l : List Element) : Option Element → Type 0 where
    past_all : length l ≤ i → InNamed i l None
    in_one : {x : Element} → i < length l → i < length (told_in l) → get_or (told_in l) i z ≡ f x → InNamed i l (Some x)

  told_one : (e x : Element) (l : List Element) → children s e ≡ x ∷ [] → told_in (e ∷ l) ≡ f x ∷ told_in l
  unfolding told_in each_in each
  told_one e x l h = rw h refl

  child_reached : (e x : Element) → children s e ≡ x ∷ [] → reached the_child e ≡ Some x
  unfolding reached onward nth children of_name
  child_reached e x h = rw h refl

  in_named : (i : ℕ) {l : List Element} → Named s l → InNamed i l (onward (reached the_child) (nth i l))
  unfolding onward nth
  in_named zero no_named = past_all (omega arith)
  in_named (suc i) no_named = past_all (omega arith)
  in_named zero (one_named {e} {x} {l} h n) =
      let t = told_one e x l h in
      let c = ap length t in
      rw (child_reached e x h) (in_one (omega arith) (omega arith) (ap (λ w. get_or w 0 z) t))
  in_named (suc i) (one_named {e} {x} {l} h n) = go (in_named i n)
    where
      go : {o : Option Element} → InNamed i l o → InNamed (suc i) (e ∷ l) o
      go (past_all u) = past_all (omega arith)
      go (in_one u v q) =
          let t = told_one e x l h in
          let c = ap length t in
          in_one (omega arith) (omega arith) (ap (λ w. get_or w (suc i) z) t ∙ q)

  pub data OnMap (i : ℕ) (e : Element) : Option Element → Type 0 where
    not_held : held i (map_of e) ≡ false → OnMap i e None
    held_there : {x : Element} → held i (map_of e) ≡ true → i < length (told_of e) → get_or (told_of e) i z ≡ f x → OnMap i e (Some x)

  -- a map whose NamedMaps have one such child each, and which holds as many
  pub on_map : (i : ℕ) {e : Element} → Named s (children "NamedMap" e)
      → held i (map_of e) ≡ ltb i (length (children "NamedMap" e)) → OnMap i e (reached (in_map s i) e)
  unfolding reached in_map children of_name told_of
  on_map i {e} n so = go (in_named i n)
    where
      go : {o : Option Element} → InNamed i (children "NamedMap" e) o → OnMap i e o
      go (past_all u) = not_held (so ∙ le-ltb i _ u)
      go (in_one u v q) = held_there (so ∙ lt-ltb i _ u) v q

  -- ---- Among the maps: the one that lists the dimension.

  abbrev pub held_on : (dimension index : ℕ) → List Map → Bool
  held_on d i l = any (λ m. any (eqb d) m.dimensions && held i m) l

  none_holds : (d i : ℕ) (l : List Map) → count (eqb d) (listed_dimensions l) ≡ 0 → held_on d i l ≡ false
  unfolding listed_dimensions each_in any
  none_holds d i [] h = refl
  none_holds d i (m ∷ l) h =
      let t = count_append (eqb d) m.dimensions (listed_dimensions l) in
      let a : any (eqb d) m.dimensions ≡ false = none_counted (eqb d) m.dimensions (omega arith) in
      let b = none_holds d i l (omega arith) in
      rw (a, b)

  data InMaps (d i : ℕ) (l : List Element) : Option Element → Type 0 where
    in_none : held_on d i (each map_of l) ≡ false → InMaps d i l None
    in_some : {x : Element} → held_on d i (each map_of l) ≡ true → get_or (each_in told_of (those (lists_it d) l)) i z ≡ f x
        → InMaps d i l (Some x)

  module _ (d i : ℕ) where
    -- of the maps behind, none lists it
    this_map : {e : Element} {l : List Element} → any (eqb d) (dimensions_of e) ≡ true
        → count (eqb d) (listed_dimensions (each map_of l)) ≡ 0 → {o : Option Element} → OnMap i e o → InMaps d i (e ∷ l) o
    unfolding each any each_in those map_of
    this_map {e} {l} t n (not_held h) = in_none (rw (t, h, none_holds d i (each map_of l) n))
    this_map {e} {l} t n (held_there h u q) =
        in_some (rw (t, h))
        (rw t (get_or-append (told_of e) (each_in told_of (those (lists_it d) l)) z i u) ∙ q)

    later_map : {e : Element} {l : List Element} → any (eqb d) (dimensions_of e) ≡ false → {o : Option Element} → InMaps d i l o
        → InMaps d i (e ∷ l) o
    unfolding each any each_in those map_of
    later_map g (in_none h) = in_none (rw g h)
    later_map g (in_some {x} h q) = in_some {x = x} (rw g h) (rw g q)

    module _ (on : (e : Element) → GoodMap e → OnMap i e (reached (in_map s i) e)) where
      in_maps : {l : List Element} → GoodMaps l → count (eqb d) (listed_dimensions (each map_of l)) ≤ 1
          → InMaps d i l (onward (reached (in_map s i)) (nth 0 (those (lists_it d) l)))
      unfolding each any those onward nth
      in_maps no_maps u = in_none refl
      in_maps (one_map {e} {l} g m) u = go (any (eqb d) (dimensions_of e)) refl (in_maps m)
        where
          go : (b : Bool) → any (eqb d) (dimensions_of e) ≡ b
              → (count (eqb d) (listed_dimensions (each map_of l)) ≤ 1
              → InMaps d i l (onward (reached (in_map s i)) (nth 0 (those (lists_it d) l))))
              → InMaps d i (e ∷ l) (onward (reached (in_map s i)) (nth 0 (cond b (e ∷ those (lists_it d) l) (those (lists_it d) l))))
          go true t ih =
              let p = dimensions_split d e l in
              let c = some_counted (eqb d) (dimensions_of e) t in
              this_map t (omega arith) (on e g)
          go false h ih = let p = dimensions_split d e l in later_map h (ih (omega arith))

-- ---- From the root.

those_both : (p q : Element → Bool) (l : List Element) → those (λ x. p x && q x) l ≡ those q (those p l)
unfolding those
those_both p q [] = refl
those_both p q (a ∷ l) = go (p a) (those_both p q l)
  where
    go : (b : Bool) → those (λ x. p x && q x) l ≡ those q (those p l)
        → cond (b && q a) (a ∷ those (λ x. p x && q x) l) (those (λ x. p x && q x) l) ≡ those q (cond b (a ∷ those p l) (those p l))
    go true h = rw h
    go false h = h

-- every list of dimensions is in form
those_listed : (d : ℕ) {l : List Element} → GoodMaps l → those (lists_dimension d) l ≡ those (lists_it d) l
unfolding those lists_dimension
those_listed d no_maps = refl
those_listed d (one_map {e} {l} g m) = rw (map_dimensions g, those_listed d m)

pub matrix_step : (d : ℕ) {e : Element} → Good matrix e
    → those (map_that_lists d) (elements (contents_of e)) ≡ those (lists_it d) (children "MatrixIndicesMap" e)
unfolding map_that_lists children
matrix_step d {e} g = those_both (λ x. is "MatrixIndicesMap" (name_of x)) (lists_dimension d) (elements (contents_of e))
    ∙ those_listed d (good_maps g)

-- a good root has one Matrix
one_matrix : (e : Element) (o : OnlyChild "Matrix" matrix (elements (contents_of e))) → children "Matrix" e ≡ o.one ∷ []
unfolding children those
one_matrix e o = rw (o.alone, o.name)

pub maps_in_lem : (e : Element) (o : OnlyChild "Matrix" matrix (elements (contents_of e))) → map_elements e ≡ children "MatrixIndicesMap" o.one
unfolding map_elements each_in
maps_in_lem e o = ap (each_in (children "MatrixIndicesMap")) (one_matrix e o) ∙ append-nil (children "MatrixIndicesMap" o.one)

root_step : (s : String) (d i : ℕ) (e : Element) (o : OnlyChild "Matrix" matrix (elements (contents_of e)))
    → reached (way_in_map s d i) e ≡ onward (reached (in_map s i)) (nth 0 (those (map_that_lists d) (elements (contents_of o.one))))
unfolding reached way_in_map those onward nth of_name
root_step s d i e o = rw (o.alone, o.name)

-- THE LAW: what the maps of the document hold, and what the way reaches
module _ {A : Type 0} (s : String) (f : Element → A) (z : A) (held : ℕ → Map → Bool) (d i : ℕ) where
  pub data FoundIn (e : Element) : Option Element → Type 0 where
    none_held : held_on s f z held d i (maps_of e) ≡ false → FoundIn e None
    one_held : {x : Element} → held_on s f z held d i (maps_of e) ≡ true
        → get_or (each_in (told_of s f z held) (those (lists_it d) (map_elements e))) i z ≡ f x → FoundIn e (Some x)

  told : (e : Element) {l : List Element} → map_elements e ≡ l → {o : Option Element} → InMaps s f z held d i l o → FoundIn e o
  unfolding maps_of
  told e q (in_none h) = none_held (rw (q, h) refl)
  told e q (in_some {x} h p) = one_held {x = x} (rw (q, h) refl) (rw q p)

  pub found_in : ((e : Element) → GoodMap e → OnMap s f z held i e (reached (in_map s i) e)) → {e : Element} → Good cifti e
      → count (eqb d) (listed_dimensions (maps_of e)) ≤ 1 → FoundIn e (reached (way_in_map s d i) e)
  unfolding maps_of
  found_in on {e} g u =
      let o = root_child g in
      let q = maps_in_lem e o in
      rw (root_step s d i e o, matrix_step d o.good) (told e q (in_maps s f z held d i on (good_maps o.good) (rw q at u)))

-- ---- OF A NAME.

-- what the paper says of the name, and what the way reaches
pub data NameOf (d i : ℕ) (e : Element) : Option Element → Type 0 where
  no_name_lem : no_name d i (maps_of e) ≡ true → NameOf d i e None
  a_name : {x : Element} → no_name d i (maps_of e) ≡ false → get_or (names_on d e) i [] ≡ within_of x → NameOf d i e (Some x)

name_by : (d i : ℕ) (e : Element) {o : Option Element} → FoundIn "MapName" within_of [] holds_name d i e o → NameOf d i e o
unfolding no_name names_on told_of told_in
name_by d i e (none_held h) = no_name_lem (rw h refl)
name_by d i e (one_held {x} h q) = a_name {x = x} (rw h refl) q

pub name_of_lem : (d i : ℕ) {e : Element} → Good cifti e → count (eqb d) (listed_dimensions (maps_of e)) ≤ 1
    → NameOf d i e (reached (name_way d i) e)
unfolding name_way
name_of_lem d i {e} g u =
    name_by d i e (found_in "MapName" within_of [] holds_name d i
    (λ x m. on_map "MapName" within_of [] holds_name i (each_named m) (holds_so m i)) g u)
