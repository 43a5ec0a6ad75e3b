-- CONDITION 14 BY THE TABLE: where 10 and 11 do not apply, a vertex stands twice in a model or a voxel twice in the map if and only if
-- two indices of the map have one location.
use Rattle.std.specs.Prelude.{◌≡◌, ◌↔◌, Bool, true, false, ◌&&◌, ◌||◌, eqb, length, get_or}
use Rattle.std.proofs.Math.Path.{refl}
use Rattle.std.proofs.Common.{sym, ap, ap₂, ◌∙◌, true≢false, arith, eq-eqb, eqb-true}
use mathlib.Core.List.{List, [], ◌∷◌}
use Rattle.std.proofs.lemmas.Bool.{false≢true}
use Prim.Native.Nat.{ℕ, zero, suc, ◌*◌, ◌<◌, ◌≤◌}
use Rattle.lists.proofs.Laws.Booleans.{and_halves, or_false}
use Rattle.lists.specs.Lists.{any, two_of, each_in, total}
use Rattle.lists.proofs.Laws.Quantifiers.{EveryPlace, OnePlace, count_one_iff}
use Rattle.cifti.proofs.Laws.Cover.{ranges_within}
use Rattle.records.specs.Record.{Location, on_surface, in_volume, SamePlace, same_vertex}
use Rattle.records.specs.Record as Record
use Rattle.cifti.proofs.Laws.Meaning.{location_at}
use Rattle.cifti.specs.Maps.{Voxel, Listed, vertices, voxels, Model, vertex_numbers, voxels_of, same_voxel, threes, voxel_at, locations}
use Rattle.cifti.specs.Maps.{locations_by, covers}
use Rattle.cifti.specs.Conditions.{same_type, alike, lists_count, repeats}
use Rattle.lists.proofs.Laws.Lists.{any_each, two_each, any_same, two_same, any_none, any_append, two_append, length_each}
use Rattle.cifti.proofs.Laws.Places.{Covered, found, two_iff}
use Rattle.cifti.proofs.Laws.Places as Met

-- one location: the same vertex of the same structure, or the same voxel, whichever structures name it
unfoldable pub same_spot : Location → Location → Bool
same_spot (on_surface s v) (on_surface t w) = eqb s t && eqb v w
same_spot (on_surface s v) (in_volume t x y z) = false
same_spot (in_volume s i j k) (on_surface t w) = false
same_spot (in_volume s i j k) (in_volume t x y z) = eqb i x && (eqb j y && eqb k z)

pub spot_to : (x y : Location) → same_spot x y ≡ true → SamePlace x y
unfolding same_spot
spot_to (on_surface s v) (on_surface t w) h = let (p, q) = and_halves (eqb s t) (eqb v w) h in rw (eqb-true s t p, eqb-true v w q) same_vertex
spot_to (on_surface s v) (in_volume t x y z) h = absurd (false≢true h)
spot_to (in_volume s i j k) (on_surface t w) h = absurd (false≢true h)
spot_to (in_volume s i j k) (in_volume t x y z) h =
    let (p, q) = and_halves (eqb i x) (eqb j y && eqb k z) h in
    let (u, v) = and_halves (eqb j y) (eqb k z) q in
    rw (eqb-true i x p, eqb-true j y u, eqb-true k z v) Record.same_voxel

pub spot_from : {x y : Location} → SamePlace x y → same_spot x y ≡ true
unfolding same_spot
spot_from (same_vertex {s} {v}) = rw (eq-eqb s s refl, eq-eqb v v refl) refl
spot_from (Record.same_voxel {i} {j} {k}) = rw (eq-eqb i i refl, eq-eqb j j refl, eq-eqb k k refl) refl

-- within one model
spots_in : (s : ℕ) (t : Listed) → two_of same_spot (locations_by s t) ≡ (two_of eqb (vertex_numbers t) || two_of same_voxel (voxels_of t))
unfolding locations_by vertex_numbers voxels_of same_spot same_voxel voxel_at two_of
spots_in s (vertices n l) = two_each (on_surface s) same_spot l ∙ two_same (λ v w. rw (eq-eqb s s refl) refl) l ∙ sym (or_false (two_of eqb l))
spots_in s (voxels l) = two_each (voxel_at s) same_spot (threes l)

-- a voxel against the models behind it
voxel_one : (s : ℕ) (x : Voxel) (t : ℕ) (k : Listed) → any (same_spot (voxel_at s x)) (locations_by t k) ≡ any (same_voxel x) (voxels_of k)
unfolding locations_by voxels_of same_spot same_voxel voxel_at any
voxel_one s x t (vertices n l) = any_each (on_surface t) (same_spot (voxel_at s x)) l ∙ any_none l
voxel_one s x t (voxels l) = any_each (voxel_at t) (same_spot (voxel_at s x)) (threes l)

voxel_ahead : (s : ℕ) (x : Voxel) (l : List Model)
    → any (same_spot (voxel_at s x)) (each_in locations l) ≡ any (same_voxel x) (each_in (λ b. voxels_of b.listed) l)
unfolding any each_in locations
voxel_ahead s x [] = refl
voxel_ahead s x (b ∷ l) =
    any_append (same_spot (voxel_at s x)) (locations b) (each_in locations l)
    ∙ ap₂ (λ p q. p || q) (voxel_one s x b.structure b.listed) (voxel_ahead s x l)
    ∙ sym (any_append (same_voxel x) (voxels_of b.listed) (each_in (λ c. voxels_of c.listed) l))

neither : (a b : Bool) → (a || b) ≡ false → (a ≡ false) × (b ≡ false)
neither true b h = absurd (true≢false h)
neither false b h = (refl, h)

-- a vertex against the models behind it, none of which is alike
vertex_one : (n : ℕ) (v : List ℕ) (s w t : ℕ) (k : Listed) → (same_type (vertices n v) k && eqb s t) ≡ false
    → any (same_spot (on_surface s w)) (locations_by t k) ≡ false
unfolding locations_by same_spot voxel_at same_type
vertex_one n v s w t (vertices m l) h = any_each (on_surface t) (same_spot (on_surface s w)) l ∙ any_same (λ u. rw h refl) l ∙ any_none l
vertex_one n v s w t (voxels l) h = any_each (voxel_at t) (same_spot (on_surface s w)) (threes l) ∙ any_none (threes l)

vertex_ahead : (m : Model) (n : ℕ) (v : List ℕ) (e : m.listed ≡ vertices n v) (w : ℕ) (l : List Model) → any (alike m) l ≡ false
    → any (same_spot (on_surface m.structure w)) (each_in locations l) ≡ false
unfolding any each_in locations alike
vertex_ahead m n v e w [] h = refl
vertex_ahead m n v e w (b ∷ l) h =
    let (x, y) = neither (alike m b) (any (alike m) l) h in
    let z : (same_type (vertices n v) b.listed && eqb m.structure b.structure) ≡ false = rw e at x in
    any_append (same_spot (on_surface m.structure w)) (locations b) (each_in locations l)
    ∙ ap₂ (λ p q. p || q) (vertex_one n v m.structure w b.structure b.listed z) (vertex_ahead m n v e w l y)

-- one in a model and one behind it
cross : (m : Model) (l : List Model) → any (alike m) l ≡ false
    → any (λ x. any (same_spot x) (each_in locations l)) (locations m)
    ≡ any (λ x. any (same_voxel x) (each_in (λ b. voxels_of b.listed) l)) (voxels_of m.listed)
unfolding locations locations_by voxels_of any
cross m l h = go m.listed refl
  where
    go : (k : Listed) → m.listed ≡ k → any (λ x. any (same_spot x) (each_in locations l)) (locations_by m.structure k)
        ≡ any (λ x. any (same_voxel x) (each_in (λ b. voxels_of b.listed) l)) (voxels_of k)
    go (vertices n v) e = any_each (on_surface m.structure) (λ x. any (same_spot x) (each_in locations l)) v
        ∙ any_same (λ w. vertex_ahead m n v e w l h) v ∙ any_none v
    go (voxels v) e = any_each (voxel_at m.structure) (λ x. any (same_spot x) (each_in locations l)) (threes v)
        ∙ any_same (λ x. voxel_ahead m.structure x l) (threes v)

-- THE PAPER'S WORDS, and one location at two entries
pub repeats_spots : (l : List Model) → two_of alike l ≡ false
    → two_of same_spot (each_in locations l)
    ≡ (any (λ b. two_of eqb (vertex_numbers b.listed)) l || two_of same_voxel (each_in (λ b. voxels_of b.listed) l))
unfolding two_of any each_in locations
repeats_spots [] h = refl
repeats_spots (m ∷ l) h =
    let (x, y) = neither (any (alike m) l) (two_of alike l) h in
    two_append same_spot (locations m) (each_in locations l)
    ∙ ap₂ (λ p q. p || q) (ap₂ (λ p q. p || q) (spots_in m.structure m.listed) (cross m l x)) (repeats_spots l y)
    ∙ shuffle (two_of eqb (vertex_numbers m.listed)) (two_of same_voxel (voxels_of m.listed))
    (any (λ z. any (same_voxel z) (each_in (λ b. voxels_of b.listed) l)) (voxels_of m.listed))
    (any (λ b. two_of eqb (vertex_numbers b.listed)) l) (two_of same_voxel (each_in (λ b. voxels_of b.listed) l))
    ∙ ap (λ p. (two_of eqb (vertex_numbers m.listed) || any (λ b. two_of eqb (vertex_numbers b.listed)) l) || p)
    (sym (two_append same_voxel (voxels_of m.listed) (each_in (λ b. voxels_of b.listed) l)))
  where
    shuffle : (a b c d e : Bool) → (((a || b) || c) || (d || e)) ≡ ((a || d) || ((b || c) || e))
    shuffle true b c d e = refl
    shuffle false true c true e = refl
    shuffle false true c false e = refl
    shuffle false false true true e = refl
    shuffle false false true false e = refl
    shuffle false false false d e = refl

-- ---- Condition 14 of a map for which 10 and 11 do not apply, and whose counts are not 0.

eqb_turned : (m n : ℕ) → eqb m n ≡ true → eqb n m ≡ true
eqb_turned m n h = eq-eqb n m (sym (eqb-true m n h))

pub turned : (x y : Location) → same_spot x y ≡ true → same_spot y x ≡ true
unfolding same_spot
turned (on_surface s v) (on_surface t w) h = let (p, q) = and_halves (eqb s t) (eqb v w) h in rw (eqb_turned s t p, eqb_turned v w q) refl
turned (on_surface s v) (in_volume t x y z) h = absurd (false≢true h)
turned (in_volume s i j k) (on_surface t w) h = absurd (false≢true h)
turned (in_volume s i j k) (in_volume t x y z) h =
    let (p, q) = and_halves (eqb i x) (eqb j y && eqb k z) h in
    let (u, v) = and_halves (eqb j y) (eqb k z) q in
    rw (eqb_turned i x p, eqb_turned j y u, eqb_turned k z v) refl

length_threes : (l : List ℕ) (n : ℕ) → length l ≡ 3 * n → length (threes l) ≡ n
unfolding threes
length_threes [] n h = omega arith
length_threes (i ∷ []) n h = absurd (omega arith)
length_threes (i ∷ j ∷ []) n h = absurd (omega arith)
length_threes (i ∷ j ∷ k ∷ l) zero h = absurd (omega arith)
length_threes (i ∷ j ∷ k ∷ l) (suc n) h = ap suc (length_threes l n (omega arith))

pub lists_count_lem : (s n : ℕ) (t : Listed) → lists_count n t ≡ true → length (locations_by s t) ≡ n
unfolding lists_count locations_by
lists_count_lem s n (vertices m l) h = length_each (on_surface s) l ∙ eqb-true (length l) n h
lists_count_lem s n (voxels l) h = length_each (voxel_at s) (threes l) ∙ length_threes l n (eqb-true (length l) (3 * n) h)

module _ (m₀ : Model) (l : List Model)
    (apart : two_of alike l ≡ false)
    (lists : EveryPlace m₀ (λ b. lists_count b.count b.listed) l)
    (one : (n : ℕ) → n < total (λ b. b.count) l → OnePlace m₀ (covers n) l)
    (some-each : (a : ℕ) → a < length l → 1 ≤ (get_or l a m₀).count) where
  pub covered : Covered locations m₀ l (total (λ b. b.count) l)
  unfolding locations
  covered = record {
    one = one;
    fits = λ a u. ranges_within m₀ l (λ n v. (count_one_iff m₀ (covers n) l).1 (one n v)) a u (some-each a u);
    lists = λ a u. lists_count_lem (get_or l a m₀).structure (get_or l a m₀).count (get_or l a m₀).listed (lists a u);
  }

  -- what stands at an index, in either words
  found_is : (k : List Model) (n : ℕ) → found (on_surface 0 0) same_spot locations m₀ k n ≡ location_at k n
  unfolding found location_at
  found_is [] n = refl
  found_is (b ∷ k) n = rw (found_is k n) refl

  -- CONDITION 14: two indices of the map have one location
  pub record Twice : Type 0 where
    pub first : ℕ
    pub second : ℕ
    pub order : first < second
    pub in_map : second < total (λ b. b.count) l
    pub same : SamePlace (location_at l first) (location_at l second)

  pub by_index : (repeats l ≡ true) ↔ Twice
  unfolding repeats
  by_index = (to, from)
    where
      size : ℕ
      size = total (λ b. b.count) l

      spots : (two_of same_spot (each_in locations l) ≡ true) ↔ Met.Twice (on_surface 0 0) same_spot turned locations m₀ l size covered
      spots = two_iff (on_surface 0 0) same_spot turned locations m₀ l size covered

      to : (any (λ b. two_of eqb (vertex_numbers b.listed)) l || two_of same_voxel (each_in (λ b. voxels_of b.listed) l)) ≡ true → Twice
      to h =
          let t = spots.0 (repeats_spots l apart ∙ h) in
          record {
            first = t.i;
            second = t.j;
            order = t.order;
            in_map = t.within;
            same = spot_to (location_at l t.i) (location_at l t.j) (rw (found_is l t.i, found_is l t.j) at t.related);
          }

      from : Twice → (any (λ b. two_of eqb (vertex_numbers b.listed)) l || two_of same_voxel (each_in (λ b. voxels_of b.listed) l)) ≡ true
      from t = sym (repeats_spots l apart)
          ∙ spots.1 (record {
            i = t.first;
            j = t.second;
            order = t.order;
            within = t.in_map;
            related = rw (found_is l t.first, found_is l t.second) (spot_from t.same);
          })
