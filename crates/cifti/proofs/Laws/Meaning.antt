-- WHAT THE CONDITIONS AND THE TABLE SAY, in statements about all places: conditions 8, 10, 11, 14, the record at an index, and the
-- answer's dimensions.
use Rattle.std.specs.Prelude.{◌≡◌, ◌↔◌, ◌&&◌, ◌||◌, not, cond, leb, ltb, get_or}
use Rattle.std.proofs.Math.Path.{refl}
use Rattle.std.proofs.Common.{sym, ap, ◌∙◌, true≢false, le_of_suc-le-suc, not-suc-le-zero, eqb-true, eq-eqb, leb-true, le-leb, ltb-true, lt-ltb}
use mathlib.Core.List.{List, [], ◌∷◌}
use Rattle.std.proofs.Math.Bool.{Bool, true, false}
use Rattle.std.proofs.lemmas.Bool.{false≢true}
use Prim.Native.Nat.{ℕ, zero, suc, ◌+◌, ◌-◌, ◌<◌, ◌≤◌, suc-le-suc}
use native.Mathlib.Omega.{arith}
use Rattle.std.proofs.Math.Dec.{eqb}
use Rattle.std.proofs.Math.ListN.{length}
use Rattle.lists.proofs.Laws.Booleans.{and_halves, and_both, or_elim, or_first, or_second}
use Rattle.lists.specs.Lists.{any, count, two_of, all_below, each, each_in}
use Rattle.lists.proofs.Laws.Quantifiers.{EveryPlace, OnePlace, any_iff, two_of_iff, count_one_iff, all_below_iff}
use Rattle.records.specs.Record.{Location, on_surface, record_of, record_words}
use Rattle.cifti.specs.Maps.{Voxel, voxel, Listed, vertices, voxels, Model, Map, brain_maps, length_of, covers, locations}
use Rattle.cifti.specs.Maps.{vertex_numbers, voxels_of, same_voxel}
use Rattle.cifti.specs.Conditions.{listed_dimensions, dimensions_wrong, same_type, alike, models_share, lists_count, uneven, ranges_wrong}
use Rattle.cifti.specs.Conditions.{repeats, location_twice, beyond, numbers_outside}
use Rattle.cifti.specs.Answer.{record_at}

-- no place fails: every place passes
module _ {A : Type 0} (z : A) (p : A → Bool) (l : List A) where
  pub none_fails : any (λ x. not (p x)) l ≡ false → EveryPlace z p l
  none_fails h i u = go (p (get_or l i z)) refl
    where
      go : (t : Bool) → p (get_or l i z) ≡ t → t ≡ true
      go true e = refl
      go false e = absurd (true≢false (sym ((any_iff z (λ x. not (p x)) l).1 (i, u, ap not e)) ∙ h))

  pub fails_none : EveryPlace z p l → any (λ x. not (p x)) l ≡ false
  fails_none f = go (any (λ x. not (p x)) l) refl
    where
      go : (t : Bool) → any (λ x. not (p x)) l ≡ t → t ≡ false
      go false e = refl
      go true e = let (i, u, v) = (any_iff z (λ x. not (p x)) l).0 e in absurd (true≢false (sym v ∙ ap not (f i u)))

-- an index in a model's range
pub covers_iff : (n : ℕ) (m : Model) → (covers n m ≡ true) ↔ ((m.offset ≤ n) × (n < m.offset + m.count))
unfolding covers
covers_iff n m = (
  λ h. let (p, q) = and_halves (leb m.offset n) (ltb n (m.offset + m.count)) h in
      (leb-true m.offset n p, ltb-true n (m.offset + m.count) q),
  λ (p, q). and_both (le-leb m.offset n p) (lt-ltb n (m.offset + m.count) q),
)

-- ---- CONDITION 8 does not apply: every dimension is listed at exactly one place of all the lists, and every listed one exists.

pub record Listing (lengths : List ℕ) (l : List Map) : Type 0 where
  pub one : (d : ℕ) → d < length lengths → OnePlace 0 (eqb d) (listed_dimensions l)
  pub exists : (i : ℕ) → i < length (listed_dimensions l) → get_or (listed_dimensions l) i 0 < length lengths

pub split : (x y : Bool) → (not x || y) ≡ false → (x ≡ true) × (y ≡ false)
split true y h = (refl, h)
split false y h = absurd (true≢false h)

pub listing_iff : (lengths : List ℕ) (l : List Map) → (dimensions_wrong lengths l ≡ false) ↔ Listing lengths l
unfolding dimensions_wrong
listing_iff lengths l = (to, from)
  where
    listed : List ℕ
    listed = listed_dimensions l

    once : ℕ → Bool
    once d = eqb (count (eqb d) listed) 1

    below : ℕ → Bool
    below d = ltb d (length lengths)

    to : (not (all_below (length lengths) once) || any (λ d. not (below d)) listed) ≡ false → Listing lengths l
    to h = let (f, g) = split (all_below (length lengths) once) (any (λ d. not (below d)) listed) h in
        record {
          one = λ d u. (count_one_iff 0 (eqb d) listed).0 (eqb-true (count (eqb d) listed) 1 ((all_below_iff (length lengths) once).0 f d u));
          exists = λ i u. ltb-true (get_or listed i 0) (length lengths) (none_fails 0 below listed g i u);
        }

    from : Listing lengths l → (not (all_below (length lengths) once) || any (λ d. not (below d)) listed) ≡ false
    from t = rw (
      (all_below_iff (length lengths) once).1
          (λ d u. eq-eqb (count (eqb d) listed) 1 ((count_one_iff 0 (eqb d) listed).1 (t.one d u))),
      fails_none 0 below listed (λ i u. lt-ltb (get_or listed i 0) (length lengths) (t.exists i u)),
    ) refl

-- ---- CONDITION 10: in some map, two different places hold models of one type and one structure.

pub data OneType : Listed → Listed → Type 0 where
  both_surface : {m n : ℕ} {k l : List ℕ} → OneType (vertices m k) (vertices n l)
  both_voxels : {k l : List ℕ} → OneType (voxels k) (voxels l)

type_to : (k l : Listed) → same_type k l ≡ true → OneType k l
unfolding same_type
type_to (vertices m k) (vertices n l) h = both_surface
type_to (vertices m k) (voxels l) h = absurd (false≢true h)
type_to (voxels k) (vertices n l) h = absurd (false≢true h)
type_to (voxels k) (voxels l) h = both_voxels

type_from : {k l : Listed} → OneType k l → same_type k l ≡ true
unfolding same_type
type_from both_surface = refl
type_from both_voxels = refl

pub alike_iff : (a b : Model) → (alike a b ≡ true) ↔ (OneType a.listed b.listed × (a.structure ≡ b.structure))
unfolding alike
alike_iff a b = (
  λ h. let (p, q) = and_halves (same_type a.listed b.listed) (eqb a.structure b.structure) h in
      (type_to a.listed b.listed p, eqb-true a.structure b.structure q),
  λ (p, q). and_both (type_from p) (eq-eqb a.structure b.structure q),
)

module _ (m₀ : Map) (b₀ : Model) where
  -- two models of the map at place i share type and structure
  pub record Share (l : List Map) : Type 0 where
    pub map : ℕ
    pub is_map_lem : map < length l
    pub one : ℕ
    pub two : ℕ
    pub apart : one < two
    pub is_model_lem : two < length (get_or l map m₀).models
    pub type : OneType (get_or (get_or l map m₀).models one b₀).listed (get_or (get_or l map m₀).models two b₀).listed
    pub structure : (get_or (get_or l map m₀).models one b₀).structure ≡ (get_or (get_or l map m₀).models two b₀).structure

  pub share_iff : (l : List Map) → (models_share l ≡ true) ↔ Share l
  unfolding models_share
  share_iff l = (to, from)
    where
      to : any (λ m. two_of alike m.models) l ≡ true → Share l
      to h =
          let (i, u, v) = (any_iff m₀ (λ m. two_of alike m.models) l).0 h in
          let (a, b, s, t, e) = (two_of_iff b₀ alike (get_or l i m₀).models).0 v in
          let (x, y) = (alike_iff (get_or (get_or l i m₀).models a b₀) (get_or (get_or l i m₀).models b b₀)).0 e in
          record { map = i; is_map_lem = u; one = a; two = b; apart = s; is_model_lem = t; type = x; structure = y }

      from : Share l → any (λ m. two_of alike m.models) l ≡ true
      from s = (any_iff m₀ (λ m. two_of alike m.models) l).1 (
        s.map,
        s.is_map_lem,
        (two_of_iff b₀ alike (get_or l s.map m₀).models).1 (
          s.one,
          s.two,
          s.apart,
          s.is_model_lem,
          (alike_iff (get_or (get_or l s.map m₀).models s.one b₀) (get_or (get_or l s.map m₀).models s.two b₀)).1
              (s.type, s.structure),
        ),
      )

  -- ---- CONDITION 12: some model of some map lists a number outside its surface, or the map's volume.
  pub record Outlying (l : List Map) : Type 0 where
    pub map : ℕ
    pub is_map_lem : map < length l
    pub model : ℕ
    pub is_model_lem : model < length (get_or l map m₀).models
    pub out : beyond (get_or l map m₀).volume (get_or (get_or l map m₀).models model b₀).listed ≡ true

  pub outside_iff : (l : List Map) → (numbers_outside l ≡ true) ↔ Outlying l
  unfolding numbers_outside
  outside_iff l = (to, from)
    where
      to : any (λ m. any (λ b. beyond m.volume b.listed) m.models) l ≡ true → Outlying l
      to h =
          let (i, u, v) = (any_iff m₀ (λ m. any (λ b. beyond m.volume b.listed) m.models) l).0 h in
          let (j, s, t) = (any_iff b₀ (λ b. beyond (get_or l i m₀).volume b.listed) (get_or l i m₀).models).0 v in
          record { map = i; is_map_lem = u; model = j; is_model_lem = s; out = t }

      from : Outlying l → any (λ m. any (λ b. beyond m.volume b.listed) m.models) l ≡ true
      from o = (any_iff m₀ (λ m. any (λ b. beyond m.volume b.listed) m.models) l).1 (
        o.map,
        o.is_map_lem,
        (any_iff b₀ (λ b. beyond (get_or l o.map m₀).volume b.listed) (get_or l o.map m₀).models).1
            (o.model, o.is_model_lem, o.out),
      )

-- ---- CONDITION 11 does not apply: every model lists as many as it counts, and every index of the map is in exactly one model's range.

-- the location of an index, whose record is `record_at`
unfoldable pub location_at : List Model → ℕ → Location
location_at [] n = on_surface 0 0
location_at (m ∷ l) n = cond (covers n m) (get_or (locations m) (n - m.offset) (on_surface 0 0)) (location_at l n)

each_at : (l : List Location) (n : ℕ) → get_or (each record_of l) n 0 ≡ record_of (get_or l n (on_surface 0 0))
unfolding each record_words
each_at [] n = refl
each_at (a ∷ l) zero = refl
each_at (a ∷ l) (suc n) = each_at l n

pub record_location : (l : List Model) (n : ℕ) → record_at l n ≡ record_of (location_at l n)
unfolding record_at location_at record_words
record_location [] n = refl
record_location (m ∷ l) n = go (covers n m) (record_location l n)
  where
    go : (t : Bool) → record_at l n ≡ record_of (location_at l n)
        → cond t (get_or (each record_of (locations m)) (n - m.offset) 0) (record_at l n)
        ≡ record_of (cond t (get_or (locations m) (n - m.offset) (on_surface 0 0)) (location_at l n))
    go true h = each_at (locations m) (n - m.offset)
    go false h = h

module _ (b₀ : Model) where
  pub record Even (m : Map) : Type 0 where
    pub lists : EveryPlace b₀ (λ b. lists_count b.count b.listed) m.models
    pub one : (n : ℕ) → n < length_of m → OnePlace b₀ (covers n) m.models

  pub even_iff : (m : Map) → (uneven m ≡ false) ↔ Even m
  unfolding uneven
  even_iff m = (to, from)
    where
      lists : Model → Bool
      lists b = lists_count b.count b.listed

      once : ℕ → Bool
      once n = eqb (count (covers n) m.models) 1

      split : (x y : Bool) → (x || not y) ≡ false → (x ≡ false) × (y ≡ true)
      split true y h = absurd (true≢false h)
      split false true h = (refl, refl)
      split false false h = absurd (true≢false h)

      to : ((any (λ x. not (lists x)) m.models || not (all_below (length_of m) once)) ≡ false) → Even m
      to h = let (f, g) = split (any (λ x. not (lists x)) m.models) (all_below (length_of m) once) h in
          record {
            lists = none_fails b₀ lists m.models f;
            one = λ n u. (count_one_iff b₀ (covers n) m.models).0
                (eqb-true (count (covers n) m.models) 1 ((all_below_iff (length_of m) once).0 g n u));
          }

      from : Even m → ((any (λ x. not (lists x)) m.models || not (all_below (length_of m) once)) ≡ false)
      from e = rw (
        fails_none b₀ lists m.models e.lists,
        (all_below_iff (length_of m) once).1
            (λ n u. eq-eqb (count (covers n) m.models) 1 ((count_one_iff b₀ (covers n) m.models).1 (e.one n u))),
      ) refl

  -- of all brain maps
  pub ranges_iff : (m₀ : Map) (l : List Map) → (ranges_wrong l ≡ false)
      ↔ ((i : ℕ) → i < length (brain_maps l) → Even (get_or (brain_maps l) i m₀))
  unfolding ranges_wrong
  ranges_iff m₀ l = (to, from)
    where
      to : any uneven (brain_maps l) ≡ false → (i : ℕ) → i < length (brain_maps l) → Even (get_or (brain_maps l) i m₀)
      to h i u = (even_iff (get_or (brain_maps l) i m₀)).0 (go (uneven (get_or (brain_maps l) i m₀)) refl)
        where
          go : (t : Bool) → uneven (get_or (brain_maps l) i m₀) ≡ t → t ≡ false
          go false e = refl
          go true e = absurd (true≢false (sym ((any_iff m₀ uneven (brain_maps l)).1 (i, u, e)) ∙ h))

      from : ((i : ℕ) → i < length (brain_maps l) → Even (get_or (brain_maps l) i m₀)) → any uneven (brain_maps l) ≡ false
      from f = go (any uneven (brain_maps l)) refl
        where
          go : (t : Bool) → any uneven (brain_maps l) ≡ t → t ≡ false
          go false e = refl
          go true e = let (i, u, v) = (any_iff m₀ uneven (brain_maps l)).0 e in
              absurd (true≢false (sym v ∙ (even_iff (get_or (brain_maps l) i m₀)).1 (f i u)))

  -- ---- THE LOCATION AT AN INDEX: in the list of the one model whose range the index is in, at the index less the offset.

  location_of_one : (l : List Model) (n i : ℕ) → i < length l → covers n (get_or l i b₀) ≡ true
      → ((j : ℕ) → j < length l → covers n (get_or l j b₀) ≡ true → j ≡ i)
      → location_at l n ≡ get_or (locations (get_or l i b₀)) (n - (get_or l i b₀).offset) (on_surface 0 0)
  unfolding location_at
  location_of_one [] n i u v w = absurd (not-suc-le-zero u)
  location_of_one (m ∷ l) n zero u v w = rw v refl
  location_of_one (m ∷ l) n (suc i) u v w =
      go (covers n m) refl (location_of_one l n i (le_of_suc-le-suc u) v (λ j x y. down (w (suc j) (suc-le-suc x) y)))
    where
      down : {j k : ℕ} → suc j ≡ suc k → j ≡ k
      down e = omega arith

      go : (t : Bool) → covers n m ≡ t → location_at l n ≡ get_or (locations (get_or l i b₀)) (n - (get_or l i b₀).offset) (on_surface 0 0)
          → cond t (get_or (locations m) (n - m.offset) (on_surface 0 0)) (location_at l n)
          ≡ get_or (locations (get_or l i b₀)) (n - (get_or l i b₀).offset) (on_surface 0 0)
      go true e k = absurd (let z : ◌≡◌ {A = ℕ} 0 (suc i) = w 0 (omega arith) e in omega arith)
      go false e k = k

  pub location_at_lem : (l : List Model) (n : ℕ) → (o : OnePlace b₀ (covers n) l)
      → location_at l n ≡ get_or (locations (get_or l o.0 b₀)) (n - (get_or l o.0 b₀).offset) (on_surface 0 0)
  location_at_lem l n (i, u, v, w) = location_of_one l n i u v w

  pub record_at_lem : (l : List Model) (n : ℕ) → (o : OnePlace b₀ (covers n) l)
      → record_at l n ≡ record_of (get_or (locations (get_or l o.0 b₀)) (n - (get_or l o.0 b₀).offset) (on_surface 0 0))
  record_at_lem l n o = record_location l n ∙ ap record_of (location_at_lem l n o)

-- ---- CONDITION 14: in some map, a vertex at two places of one model's list, or a voxel at two places of all its voxel models' lists.

pub voxel_iff : (x y : Voxel) → (same_voxel x y ≡ true) ↔ (x ≡ y)
unfolding same_voxel
voxel_iff v w = (to, from)
  where
    build : {i j k x y z : ℕ} → i ≡ x → j ≡ y → k ≡ z → voxel i j k ≡ voxel x y z
    build p q r = rw (p, q, r) refl

    to : same_voxel v w ≡ true → v ≡ w
    to h =
        let (p, q) = and_halves (eqb v.i w.i) (eqb v.j w.j && eqb v.k w.k) h in
        let (s, t) = and_halves (eqb v.j w.j) (eqb v.k w.k) q in
        build (eqb-true v.i w.i p) (eqb-true v.j w.j s) (eqb-true v.k w.k t)

    from : v ≡ w → same_voxel v w ≡ true
    from e = and_both (eq-eqb v.i w.i (ap (λ (x : Voxel). x.i) e))
        (and_both (eq-eqb v.j w.j (ap (λ (x : Voxel). x.j) e)) (eq-eqb v.k w.k (ap (λ (x : Voxel). x.k) e)))

-- one thing at two different places of a list
module _ {A : Type 0} (z : A) where
  pub record AtTwo (l : List A) : Type 0 where
    pub one : ℕ
    pub two : ℕ
    pub apart : one < two
    pub is_place : two < length l
    pub same : get_or l one z ≡ get_or l two z

  pub two_iff : (r : A → A → Bool) → ((x y : A) → (r x y ≡ true) ↔ (x ≡ y)) → (l : List A) → (two_of r l ≡ true) ↔ AtTwo l
  two_iff r f l = (
    λ h. let (i, j, s, t, e) = (two_of_iff z r l).0 h in
        record { one = i; two = j; apart = s; is_place = t; same = (f (get_or l i z) (get_or l j z)).0 e },
    λ t. (two_of_iff z r l).1 (t.one, t.two, t.apart, t.is_place, (f (get_or l t.one z) (get_or l t.two z)).1 t.same),
  )

module _ (b₀ : Model) where
  pub data Repeated (l : List Model) : Type 0 where
    vertex_twice_lem : (a : ℕ) → a < length l → AtTwo 0 (vertex_numbers (get_or l a b₀).listed) → Repeated l
    voxel_twice : AtTwo (voxel 0 0 0) (each_in (λ b. voxels_of b.listed) l) → Repeated l

  number_iff : (m n : ℕ) → (eqb m n ≡ true) ↔ (m ≡ n)
  number_iff m n = (eqb-true m n, eq-eqb m n)

  pub repeats_iff : (l : List Model) → (repeats l ≡ true) ↔ Repeated l
  unfolding repeats
  repeats_iff l = (to, from)
    where
      vertex : Model → Bool
      vertex b = two_of eqb (vertex_numbers b.listed)

      all_voxels : List Voxel
      all_voxels = each_in (λ b. voxels_of b.listed) l

      to : (any vertex l || two_of same_voxel all_voxels) ≡ true → Repeated l
      to h = or_elim (Repeated l) (any vertex l) (two_of same_voxel all_voxels) h
          (λ k. let (a, u, v) = (any_iff b₀ vertex l).0 k in
          vertex_twice_lem a u ((two_iff 0 eqb number_iff (vertex_numbers (get_or l a b₀).listed)).0 v))
          (λ k. voxel_twice ((two_iff (voxel 0 0 0) same_voxel voxel_iff all_voxels).0 k))

      from : Repeated l → (any vertex l || two_of same_voxel all_voxels) ≡ true
      from (vertex_twice_lem a u t) = or_first (any vertex l) (two_of same_voxel all_voxels)
          ((any_iff b₀ vertex l).1 (a, u, (two_iff 0 eqb number_iff (vertex_numbers (get_or l a b₀).listed)).1 t))
      from (voxel_twice t) = or_second (any vertex l) ((two_iff (voxel 0 0 0) same_voxel voxel_iff all_voxels).1 t)

  -- of all maps
  pub twice_iff : (m₀ : Map) (l : List Map) → (location_twice l ≡ true) ↔ ((i : ℕ) × (i < length l) × Repeated (get_or l i m₀).models)
  unfolding location_twice
  twice_iff m₀ l = (
    λ h. let (i, u, v) = (any_iff m₀ (λ m. repeats m.models) l).0 h in (i, u, (repeats_iff (get_or l i m₀).models).0 v),
    λ (i, u, v). (any_iff m₀ (λ m. repeats m.models) l).1 (i, u, (repeats_iff (get_or l i m₀).models).1 v),
  )
