-- What is proved of Ready.
use Rattle.std.specs.Prelude.{◌≡◌, refl, List, [], ◌∷◌, ◌++◌, Bool, true, false, cond, ◌||◌, not, ℕ, zero, suc, ◌+◌, ◌-◌, ◌≤◌, ◌<◌, eqb, ltb, get_or, take}
use Rattle.std.proofs.Math.Path.{sym, ap}
use Rattle.std.proofs.Common.{◌∙◌, true≢false, le_of_suc-le-suc, length-append, ext_get_or, get_or-take, length-take-le, eqb-true, ltb-true, lt-ltb}
use native.Mathlib.Omega.{arith}
use Rattle.std.proofs.Math.ListN.{length}
use Rattle.std.proofs.Math.Decide.{dec_lt}
use Rattle.lists.specs.Lists.{any, count, each, each_in, all_below, those}
use Rattle.lists.proofs.Laws.Quantifiers.{all_below_iff}
use Rattle.lists.proofs.Laws.Lists.{length_each}
use Rattle.grammar.specs.Document.{Element}
use Rattle.grammar.specs.Look.{is, name_of, attr, contents_of, elements, children}
use Rattle.nodes.specs.Places.{the}
use Rattle.cifti.specs.Rows.{matrix}
use Rattle.cifti.specs.Maps.{Map, map_of, dimensions_of}
use Rattle.cifti.specs.Conditions.{listed_dimensions, dimensions_wrong}
use Rattle.maps.proofs.Laws.Good.{AllGood, none_left, one_good}
use Rattle.maps.specs.Good.{Good}
use Rattle.maps.proofs.Laws.Kinds.{matrix_rows, matrix_children}
use Rattle.maps.proofs.Laws.MapKind.{good_map, map_dimensions}
use Rattle.maps.specs.MapKind.{GoodMap}
use Rattle.maps.proofs.Laws.Dimensions.{Small, no_small, one_small, values_small, values_some}
use Rattle.maps.specs.Survey.{MapsAre}
use Rattle.maps.specs.declared.survey.MapNote.{MapNote}
use Rattle.maps.specs.declared.survey.Maps.{Maps}
use Rattle.maps.specs.Ready.{matrix_maps, map_places, Ready, maps_at, no_note}

-- every map is good
pub data GoodMaps : List Element → Type 0 where
  no_maps : GoodMaps []
  one_map : {e : Element} {l : List Element} → GoodMap e → GoodMaps l → GoodMaps (e ∷ l)

those_good : (l : List Element) → AllGood matrix_rows l → GoodMaps (those (λ e. is "MatrixIndicesMap" (name_of e)) l)
unfolding those
those_good [] none_left = no_maps
those_good (e ∷ l) (one_good g r) = go (is "MatrixIndicesMap" (name_of e)) refl (those_good l r)
  where
    go : (b : Bool) → is "MatrixIndicesMap" (name_of e) ≡ b → GoodMaps (those (λ d. is "MatrixIndicesMap" (name_of d)) l)
        → GoodMaps (cond b (e ∷ those (λ d. is "MatrixIndicesMap" (name_of d)) l) (those (λ d. is "MatrixIndicesMap" (name_of d)) l))
    go true q m = one_map (good_map e g q) m
    go false q m = m

pub good_maps : {e : Element} → Good matrix e → GoodMaps (children "MatrixIndicesMap" e)
unfolding children
good_maps {e} g = those_good (elements (contents_of e)) (matrix_children g)

-- ---- All listed dimensions are digits, one at least a map.

small_append : {k l : List ℕ} → Small k → Small l → Small (k ++ l)
small_append no_small s = s
small_append (one_small u r) s = one_small u (small_append r s)

pub small_listed : {l : List Element} → GoodMaps l → Small (listed_dimensions (each map_of l))
unfolding listed_dimensions each each_in map_of dimensions_of
small_listed no_maps = no_small
small_listed (one_map {e} g m) = small_append (values_small (attr "AppliesToMatrixDimension" e) (map_dimensions g)) (small_listed m)

many_listed : {l : List Element} → GoodMaps l → length l ≤ length (listed_dimensions (each map_of l))
unfolding listed_dimensions each each_in map_of dimensions_of
many_listed no_maps = omega arith
many_listed (one_map {e} {l} g m) =
    let h = values_some (attr "AppliesToMatrixDimension" e) (map_dimensions g) in
    let k = many_listed m in
    omega (arith, length-append (dimensions_of e) (each_in (λ (x : Map). x.dimensions) (each map_of l)))

-- numbers below three, counted
below_three : (l : List ℕ) → any (λ d. not (ltb d 3)) l ≡ false → length l ≡ count (eqb 0) l + count (eqb 1) l + count (eqb 2) l
unfolding any count
below_three [] h = omega arith
below_three (d ∷ l) h = go d (ltb d 3) refl h (below_three l)
  where
    go : (d : ℕ) (b : Bool) → ltb d 3 ≡ b → (not b || any (λ d. not (ltb d 3)) l) ≡ false
        → (any (λ d. not (ltb d 3)) l ≡ false → length l ≡ count (eqb 0) l + count (eqb 1) l + count (eqb 2) l)
        → suc (length l) ≡ (cond (eqb 0 d) 1 0 + count (eqb 0) l) + (cond (eqb 1 d) 1 0 + count (eqb 1) l) +
        (cond (eqb 2 d) 1 0 + count (eqb 2) l)
    go d false e k ih = absurd (true≢false k)
    go zero true e k ih = let r = ih k in omega arith
    go (suc zero) true e k ih = let r = ih k in omega arith
    go (suc (suc zero)) true e k ih = let r = ih k in omega arith
    go (suc (suc (suc d))) true e k ih = absurd (let z = ltb-true (suc (suc (suc d))) 3 e in omega arith)

-- none is past a limit
none_past : (n d : ℕ) (l : List ℕ) → any (λ e. not (ltb e n)) l ≡ false → n ≤ d → count (eqb d) l ≡ 0
unfolding any count
none_past n d [] h u = refl
none_past n d (e ∷ l) h u = go (ltb e n) refl (eqb d e) refl h (none_past n d l)
  where
    go : (b : Bool) → ltb e n ≡ b → (t : Bool) → eqb d e ≡ t → (not b || any (λ e. not (ltb e n)) l) ≡ false
        → (any (λ e. not (ltb e n)) l ≡ false → n ≤ d → count (eqb d) l ≡ 0) → cond t 1 0 + count (eqb d) l ≡ 0
    go false p t q k ih = absurd (true≢false k)
    go true p true q k ih = absurd (let x = ltb-true e n p in let y = eqb-true d e q in omega arith)
    go true p false q k ih = let r = ih k u in omega arith

wider : (n : ℕ) (l : List ℕ) → n ≤ 3 → any (λ e. not (ltb e n)) l ≡ false → any (λ e. not (ltb e 3)) l ≡ false
unfolding any
wider n [] u h = refl
wider n (e ∷ l) u h = go (ltb e n) refl h (wider n l u)
  where
    go : (b : Bool) → ltb e n ≡ b → (not b || any (λ e. not (ltb e n)) l) ≡ false
        → (any (λ e. not (ltb e n)) l ≡ false → any (λ e. not (ltb e 3)) l ≡ false) → (not (ltb e 3) || any (λ e. not (ltb e 3)) l) ≡ false
    go false p k ih = absurd (true≢false k)
    go true p k ih = let x = ltb-true e n p in let y : e < 3 = omega arith in rw (lt-ltb e 3 y) (ih k)

-- four maps are too many for three dimensions
pub too_many : (lengths : List ℕ) {l : List Element} → length lengths ≤ 3 → GoodMaps l → 3 < length l
    → dimensions_wrong lengths (each map_of l) ≡ true
unfolding dimensions_wrong
too_many lengths {l} u g v = go (all_below n once) refl (any past listed) refl
  where
    n : ℕ
    n = length lengths

    listed : List ℕ
    listed = listed_dimensions (each map_of l)

    once : ℕ → Bool
    once d = eqb (count (eqb d) (listed_dimensions (each map_of l))) 1

    past : ℕ → Bool
    past d = not (ltb d (length lengths))

    few : all_below (length lengths) once ≡ true → any past listed ≡ false → (d : ℕ) → count (eqb d) listed ≤ 1
    few a p d = by (dec_lt d (length lengths))
      where
        by : Dec (d < length lengths) → count (eqb d) listed ≤ 1
        by (yes w) = let e = eqb-true (count (eqb d) listed) 1 ((all_below_iff (length lengths) once).0 a d w) in omega arith
        by (no w) = let e = none_past (length lengths) d listed p (omega arith) in omega arith

    go : (a : Bool) → all_below (length lengths) once ≡ a → (b : Bool) → any past listed ≡ b → (not a || b) ≡ true
    go false e b f = refl
    go true e true f = refl
    go true e false f =
        let s = below_three listed (wider (length lengths) listed u f) in
        let c₀ = few e f 0 in
        let c₁ = few e f 1 in
        let c₂ = few e f 2 in
        let m = many_listed g in
        absurd (omega arith)

each_twice : (text l : List ℕ) → each map_of (each (the text) l) ≡ each (λ p. map_of (the text p)) l
unfolding each
each_twice text [] = refl
each_twice text (p ∷ l) = ap (λ x. map_of (the text p) ∷ x) (each_twice text l)

each_at : (l : List MapNote) (i : ℕ) → i < length l → get_or (each (λ (n : MapNote). n.at) l) i 0 ≡ (get_or l i no_note).at
unfolding each
each_at [] i u = absurd (omega arith)
each_at (n ∷ l) zero u = refl
each_at (n ∷ l) (suc i) u = each_at l i (le_of_suc-le-suc u)

pub met_is : {text : List ℕ} {m : ℕ} {r : Maps} (a : MapsAre text m r) → r.count ≤ 3 → map_places r ≡ a.met
unfolding map_places
met_is {r = r} a few =
    let h = a.holds.many in
    let t = a.holds.three in
    let cut : length (take r.count r.each) ≡ r.count = length-take-le r.count r.each (omega arith) in
    let long : length (each (λ (n : MapNote). n.at) (take r.count r.each)) ≡ r.count =
    length_each (λ (n : MapNote). n.at) (take r.count r.each) ∙ cut in
    ext_get_or 0 (each (λ (n : MapNote). n.at) (take r.count r.each)) a.met (omega arith)
    (λ i u. let v : i < r.count = omega arith in
    each_at (take r.count r.each) i (omega arith) ∙ ap (λ (n : MapNote). n.at) (get_or-take r.count r.each i no_note v)
    ∙ a.holds.place no_note i (omega arith) (omega arith))

module _ {text : List ℕ} {m : ℕ} {r : Maps} (a : MapsAre text m r) (g : Good matrix (the text m)) where
  length_met : length (children "MatrixIndicesMap" (the text m)) ≡ length a.met
  length_met = ap length a.are ∙ length_each (the text) a.met

  -- more than three
  pub maps_many : (lengths : List ℕ) → length lengths ≤ 3 → 3 < r.count → dimensions_wrong lengths (matrix_maps (the text m)) ≡ true
  unfolding matrix_maps
  maps_many lengths u v =
      let h = a.holds.many in
      let k = length_met in
      let w : 3 < length (children "MatrixIndicesMap" (the text m)) = omega arith in
      too_many lengths u (good_maps g) w

  module _ (few : r.count ≤ 3) where
    -- at most three: they are ready, and they are the maps of the matrix
    pub maps_ready : Ready text r
    maps_ready = record {
      three = a.holds.three;
      few = few;
      noted = λ z i u. (let h = a.holds.many in a.holds.noted z i (omega arith) (omega arith));
    }

    pub maps_same : maps_at text r ≡ matrix_maps (the text m)
    unfolding maps_at matrix_maps
    maps_same = ap (each (λ p. map_of (the text p))) (met_is a few) ∙ sym (each_twice text a.met) ∙ ap (each map_of) (sym a.are)
