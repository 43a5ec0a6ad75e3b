-- THE MAP THAT LISTS A DIMENSION, in a document to which 6 to 9 do not apply: there is at most one, and its names are the dimension's.
use Rattle.std.specs.Prelude.{◌≡◌, Bool, ◌&&◌, ◌||◌, ℕ, ◌-◌, ◌≤◌, eqb, ltb, get_or, Option, Some, None}
use Rattle.std.proofs.Math.Path.{refl, sym, ap}
use Rattle.std.proofs.Common.{◌∙◌, subst, arith, ltb-true, ltb-false, lt-ltb, le-ltb, ne_eqb}
use mathlib.Core.List.{List, [], ◌∷◌, append-nil}
use Rattle.std.proofs.Math.Bool.{true, false, cond, not}
use Rattle.std.proofs.Math.Decide.{ℕ_discrete}
use Rattle.std.proofs.Math.ListN.{length}
use Rattle.lists.specs.Lists.{any, count, each, each_in, those}
use Rattle.lists.proofs.Laws.Booleans.{or_left, or_right, or_false, both_ways, clash}
use Rattle.lists.proofs.Laws.Lists.{any_each}
use Rattle.grammar.specs.Document.{Element}
use Rattle.grammar.specs.Look.{Word, within_of, contents_of, elements, children}
use Rattle.cifti.specs.Rows.{cifti, matrix}
use Rattle.cifti.specs.Maps.{Map, map_of, maps_of, dimensions_of, map_elements, length_of, length_by, is_scalars, has_names, same_kind}
use Rattle.cifti.specs.Conditions.{listed_dimensions, length_wrong}
use Rattle.cifti.specs.Names.{holds_name, no_name, names_on}
use Rattle.cifti.specs.declared.answer.Kind.TheVariants.{Scalars, Labels}
use Rattle.maps.specs.Good.{Good}
use Rattle.maps.proofs.Laws.Kinds.{OnlyChild, root_child}
use Rattle.maps.specs.MapKind.{GoodMap}
use Rattle.maps.proofs.Laws.Ready.{GoodMaps, no_maps, one_map, good_maps}
use Rattle.maps.proofs.Laws.Listed.{any_some}
use Rattle.inside.specs.Way.{nth, onward, reached}
use Rattle.map_names.specs.Way.{of_name, map_that_lists, map_way}
use Rattle.map_names.proofs.Laws.Held.{Named, no_named, one_named, each_named, holds_so}
use Rattle.map_names.proofs.Laws.Reached.{some_counted, lists_it, dimensions_split, matrix_step, maps_in_lem}

-- ---- Those that pass.

module _ {A : Type 0} where
  any_those : (p q : A → Bool) (l : List A) → any (λ x. p x && q x) l ≡ any q (those p l)
  unfolding any those
  any_those p q [] = refl
  any_those p q (a ∷ l) = go (p a) (any_those p q l)
    where
      go : (b : Bool) → any (λ x. p x && q x) l ≡ any q (those p l)
          → ((b && q a) || any (λ x. p x && q x) l) ≡ any q (cond b (a ∷ those p l) (those p l))
      go true h = rw h
      go false h = h

  none_kept : (p q : A → Bool) (l : List A) → any q l ≡ false → any q (those p l) ≡ false
  unfolding any those
  none_kept p q [] h = refl
  none_kept p q (a ∷ l) h = go (p a) (or_left (q a) (any q l) h) (none_kept p q l (or_right (q a) (any q l) h))
    where
      go : (b : Bool) → q a ≡ false → any q (those p l) ≡ false → any q (cond b (a ∷ those p l) (those p l)) ≡ false
      go true e ih = rw (e, ih)
      go false e ih = ih

  passes_first : (p : A → Bool) (l : List A) {m : A} {k : List A} → those p l ≡ m ∷ k → p m ≡ true
  unfolding those
  passes_first p [] h = clash (cc)
  passes_first p (a ∷ l) {m} {k} h = go (p a) refl h (λ g. passes_first p l g)
    where
      go : (b : Bool) → p a ≡ b → cond b (a ∷ those p l) (those p l) ≡ m ∷ k → (those p l ≡ m ∷ k → p m ≡ true) → p m ≡ true
      go true e g ih = let z : a ≡ m = cc in ap p (sym z) ∙ e
      go false e g ih = ih g

-- ---- At most one map lists the dimension.

kept_good : (p : Element → Bool) {l : List Element} → GoodMaps l → GoodMaps (those p l)
unfolding those
kept_good p no_maps = no_maps
kept_good p (one_map {e} {l} g m) = go (p e) (kept_good p m)
  where
    go : (b : Bool) → GoodMaps (those p l) → GoodMaps (cond b (e ∷ those p l) (those p l))
    go true r = one_map g r
    go false r = r

few_list : (d : ℕ) (l : List Element) → length (those (lists_it d) l) ≤ count (eqb d) (listed_dimensions (each map_of l))
unfolding those
few_list d [] = omega arith
few_list d (e ∷ l) = go (lists_it d e) refl (few_list d l)
  where
    go : (b : Bool) → lists_it d e ≡ b → length (those (lists_it d) l) ≤ count (eqb d) (listed_dimensions (each map_of l))
        → length (cond b (e ∷ those (lists_it d) l) (those (lists_it d) l)) ≤ count (eqb d) (listed_dimensions (each map_of (e ∷ l)))
    go true t r =
        let s = dimensions_split d e l in
        let c = some_counted (eqb d) (dimensions_of e) t in
        omega arith
    go false t r = let s = dimensions_split d e l in omega arith

-- no map lists the dimension; and one alone does
pub record Unlisted (d : ℕ) (e : Element) : Type 0 where
  pub none : those (lists_it d) (map_elements e) ≡ []

pub record Lone (d : ℕ) (e m : Element) : Type 0 where
  pub alone : those (lists_it d) (map_elements e) ≡ m ∷ []
  pub good : GoodMap m

pub data MapOf (d : ℕ) (e : Element) : Option Element → Type 0 where
  no_map : Unlisted d e → MapOf d e None
  the_map : {m : Element} → Lone d e m → MapOf d e (Some m)

onward_some : {A : Type 0} (o : Option A) → onward Some o ≡ o
unfolding onward
onward_some None = refl
onward_some (Some a) = refl

root_step : (d : ℕ) (e : Element) (o : OnlyChild "Matrix" matrix (elements (contents_of e)))
    → reached (map_way d) e ≡ nth 0 (those (map_that_lists d) (elements (contents_of o.one)))
unfolding reached map_way those onward nth of_name
root_step d e o = rw (o.alone, o.name) (onward_some (nth 0 (those (map_that_lists d) (elements (contents_of o.one)))))

pub map_of_lem : (d : ℕ) {e : Element} → Good cifti e → count (eqb d) (listed_dimensions (maps_of e)) ≤ 1 → MapOf d e (reached (map_way d) e)
unfolding maps_of nth
map_of_lem d {e} g u =
    let o = root_child g in
    let s = maps_in_lem e o in
    let k = few_list d (map_elements e) in
    let many : length (those (lists_it d) (map_elements e)) ≤ 1 = omega arith in
    let way : reached (map_way d) e ≡ nth 0 (those (lists_it d) (map_elements e)) =
    root_step d e o ∙ ap (nth 0) (matrix_step d o.good ∙ ap (those (lists_it d)) (sym s)) in
    rw way
    (by (those (lists_it d) (map_elements e)) refl many
    (kept_good (lists_it d) (subst (λ (l : List Element). GoodMaps l) (sym s) (good_maps o.good))))
  where
    by : (l : List Element) → those (lists_it d) (map_elements e) ≡ l → length l ≤ 1 → GoodMaps l → MapOf d e (nth 0 l)
    by [] h u m = no_map (record { none = h })
    by (m ∷ []) h u (one_map g r) = the_map (record { alone = h; good = g })
    by (m ∷ n ∷ l) h u r = absurd (omega arith)

-- ---- 18, and how many names there are.

no_name_by : (d i : ℕ) (e : Element) → no_name d i (maps_of e) ≡ not (any (λ x. holds_name i (map_of x)) (those (lists_it d) (map_elements e)))
unfolding no_name maps_of map_of
no_name_by d i e =
    ap not
    (any_each map_of (λ (m : Map). any (eqb d) m.dimensions && holds_name i m) (map_elements e)
    ∙ any_those (lists_it d) (λ x. holds_name i (map_of x)) (map_elements e))

pub none_lists : {d : ℕ} {e : Element} → Unlisted d e → (i : ℕ) → no_name d i (maps_of e) ≡ true
unfolding any
none_lists {d} {e} u i = no_name_by d i e ∙ rw u.none

-- what stands in the MapNames of NamedMaps
abbrev names_in : List Element → List Word
names_in l = each within_of (each_in (children "MapName") l)

named_many : {l : List Element} → Named "MapName" l → length (names_in l) ≡ length l
unfolding each_in each
named_many no_named = refl
named_many (one_named {e} {x} {l} h n) = let k = named_many n in rw h (omega arith)

-- a map whose kind has names is as long as it counts
counted_long : (m : Map) → has_names m.kind ≡ true → length_of m ≡ m.counted
unfolding length_of length_by
counted_long m h = by (is_scalars m.kind) refl
  where
    by : (b : Bool) → is_scalars m.kind ≡ b → length_by m.kind m ≡ m.counted
    by true k = rw (same_kind m.kind Scalars k) refl
    by false k = rw (same_kind m.kind Labels (rw k at h)) refl

-- a map that holds a name of each index below n, and no other, is n long
holds_long : (m : Map) (n : ℕ) → ((i : ℕ) → holds_name i m ≡ ltb i n) → 1 ≤ n → length_of m ≡ n
unfolding holds_name
holds_long m n h u = by (has_names m.kind) refl
  where
    by : (b : Bool) → has_names m.kind ≡ b → length_of m ≡ n
    by false k = both_ways (h 0 ∙ lt-ltb 0 n u) (rw k)
    by true k =
        let past : ltb n m.counted ≡ false = sym (rw k) ∙ h n ∙ le-ltb n n (omega arith) in
        let last : ltb (n - 1) m.counted ≡ true = sym (rw k) ∙ h (n - 1) ∙ lt-ltb (n - 1) n (omega arith) in
        let few = ltb-false n m.counted past in
        let many = ltb-true (n - 1) m.counted last in
        let long = counted_long m k in
        omega arith

module _ {d : ℕ} {e m : Element} (one : Lone d e m) where
  pub names_many : length (names_on d e) ≡ length (children "NamedMap" m)
  unfolding names_on each_in
  names_many = rw one.alone (ap length (append-nil (names_in (children "NamedMap" m))) ∙ named_many (each_named one.good))

  -- there is a name of each index below their number
  pub name_below : (i : ℕ) → no_name d i (maps_of e) ≡ not (ltb i (length (children "NamedMap" m)))
  unfolding any
  name_below i = no_name_by d i e ∙ rw one.alone (ap not (or_false (holds_name i (map_of m)) ∙ holds_so one.good i))

  module _ (lengths : List ℕ) (w : length_wrong lengths (maps_of e) ≡ false) where
    abbrev differs : Element → Bool
    differs x = any (λ k. not (eqb (length_of (map_of x)) (get_or lengths k 0))) (dimensions_of x)

    none_differs : any differs (map_elements e) ≡ false
    unfolding length_wrong maps_of map_of
    none_differs =
        sym (any_each map_of (λ (x : Map). any (λ k. not (eqb (length_of x) (get_or lengths k 0))) x.dimensions) (map_elements e)) ∙ w

    agrees : differs m ≡ false
    unfolding any
    agrees =
        or_left (differs m) false
        (subst (λ (l : List Element). any differs l ≡ false) one.alone (none_kept (lists_it d) differs (map_elements e) none_differs))

    lists_length : length_of (map_of m) ≡ get_or lengths d 0
    lists_length = by (ℕ_discrete (length_of (map_of m)) (get_or lengths d 0))
      where
        by : Dec (length_of (map_of m) ≡ get_or lengths d 0) → length_of (map_of m) ≡ get_or lengths d 0
        by (yes z) = z
        by (no k) =
            let here = some_counted (eqb d) (dimensions_of m) (passes_first (lists_it d) (map_elements e) one.alone) in
            both_ways
            (any_some (λ k. not (eqb (length_of (map_of m)) (get_or lengths k 0))) d (dimensions_of m)
            (ap not (ne_eqb (length_of (map_of m)) (get_or lengths d 0) k)) (λ z. omega arith)) agrees

    -- where there is a name, there are as many as the dimension is long
    pub names_long : 1 ≤ length (children "NamedMap" m) → length (children "NamedMap" m) ≡ get_or lengths d 0
    names_long u =
        sym (holds_long (map_of m) (length (children "NamedMap" m)) (holds_so one.good) u) ∙ lists_length
