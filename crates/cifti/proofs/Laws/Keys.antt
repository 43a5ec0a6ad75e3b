-- CONDITION 14 BY KEYS: where every location fits its record, 14 applies to a map (10 and 11 do not) if and only if two records of its
-- stretch have one key.
use Rattle.std.specs.Prelude.{◌≡◌, refl, ◌↔◌, List, [], ◌∷◌, true, false, ◌&&◌, ltb, get_or}
use Prim.Native.Nat.{ℕ, zero, suc, ◌-◌, ◌^◌, ◌<◌, ◌≤◌}
use Rattle.std.proofs.Common.{le_of_suc-le-suc, not-suc-le-zero, arith, ltb-true}
use Rattle.std.proofs.Math.ListN.{length}
use Rattle.lists.proofs.Laws.Booleans.{and_halves}
use Rattle.lists.specs.Lists.{two_of, each, total}
use Rattle.lists.proofs.Laws.Lists.{length_each}
use Rattle.lists.proofs.Laws.Quantifiers.{EveryPlace, OnePlace}
use Rattle.records.specs.Width.{Width}
use Rattle.records.specs.Record.{Location, on_surface, record_of, key_of, FitsIn, Fits, surface, volume}
use Rattle.records.proofs.Laws.Record.{seven_sound, same_place_key, key_same_place}
use Rattle.cifti.specs.Maps.{Voxel, voxel, Listed, vertices, voxels, Model, voxels_of, threes, voxel_at, locations, locations_by, covers}
use Rattle.cifti.specs.Conditions.{alike, lists_count, outside, beyond, repeats}
use Rattle.cifti.specs.Answer.{record_at}
use Rattle.cifti.proofs.Laws.Meaning.{none_fails, covers_iff, location_at, location_at_lem, record_location}
use Rattle.cifti.proofs.Laws.Repeats.{lists_count_lem, Twice, by_index}

-- ---- What a model lists fits, where 12 does not apply and the sizes are within the limits.

at_each : {A : Type 0} (f : A → Location) (l : List A) (z : A) (y : Location) (p : ℕ) → p < length l → get_or (each f l) p y ≡ f (get_or l p z)
unfolding each
at_each f [] z y p u = absurd (not-suc-le-zero u)
at_each f (x ∷ l) z y zero u = refl
at_each f (x ∷ l) z y (suc p) u = at_each f l z y p (le_of_suc-le-suc u)

-- the surface is no larger than a record's payload can count
pub data Small (w : Width) : Listed → Type 0 where
  small_surface : {n : ℕ} {l : List ℕ} → n ≤ 2 ^ w.vertex → Small w (vertices n l)
  voxels_small : {l : List ℕ} → Small w (voxels l)

pub listed_fits : (w : Width) (s : ℕ) (v : Voxel) (t : Listed) → s < 2 ^ w.structure → v.i ≤ 2 ^ w.i → v.j ≤ 2 ^ w.j
    → v.k ≤ 2 ^ w.k → Small w t
    → beyond v t ≡ false → (p : ℕ) → p < length (locations_by s t) → FitsIn w (get_or (locations_by s t) p (on_surface 0 0))
unfolding locations_by beyond voxels_of voxel_at outside
listed_fits b s v (vertices n l) h hi hj hk (small_surface m) f p u =
    let w : p < length l = rw (length_each (on_surface s) l) at u in
    let q = ltb-true (get_or l p 0) n (none_fails 0 (λ x. ltb x n) l f p w) in
    let g : get_or l p 0 < 2 ^ b.vertex = omega arith in
    rw (at_each (on_surface s) l 0 (on_surface 0 0) p w) (surface h g)
listed_fits b s v (voxels l) h hi hj hk voxels_small f p u =
    let w : p < length (threes l) = rw (length_each (voxel_at s) (threes l)) at u in
    let x : Voxel = get_or (threes l) p (voxel 0 0 0) in
    let q = none_fails (voxel 0 0 0) (λ y. ltb y.i v.i && (ltb y.j v.j && ltb y.k v.k)) (threes l) f p w in
    let (d, r) = and_halves (ltb x.i v.i) (ltb x.j v.j && ltb x.k v.k) q in
    let (e, c) = and_halves (ltb x.j v.j) (ltb x.k v.k) r in
    let d' = ltb-true x.i v.i d in
    let e' = ltb-true x.j v.j e in
    let c' = ltb-true x.k v.k c in
    let i' : x.i < 2 ^ b.i = omega arith in
    let j' : x.j < 2 ^ b.j = omega arith in
    let k' : x.k < 2 ^ b.k = omega arith in
    rw (at_each (voxel_at s) (threes l) (voxel 0 0 0) (on_surface 0 0) p w) (volume h i' j' k')

-- ---- Of a map whose every index is in one range.

module _ (m₀ : Model) (l : List Model)
    (apart : two_of alike l ≡ false)
    (lists : EveryPlace m₀ (λ b. lists_count b.count b.listed) l)
    (one : (n : ℕ) → n < total (λ b. b.count) l → OnePlace m₀ (covers n) l)
    (some-each : (a : ℕ) → a < length l → 1 ≤ (get_or l a m₀).count)
    (fits : (a : ℕ) → a < length l → (p : ℕ) → p < length (locations (get_or l a m₀))
    → Fits (get_or (locations (get_or l a m₀)) p (on_surface 0 0))) where
  -- the location of every index fits its record
  pub fits_at : (n : ℕ) → n < total (λ b. b.count) l → Fits (location_at l n)
  unfolding locations
  fits_at n u =
      let o = one n u in
      let a : ℕ = o.0 in
      let v : a < length l = o.1 in
      let (x, y) = (covers_iff n (get_or l a m₀)).0 o.2 in
      let c = lists_count_lem (get_or l a m₀).structure (get_or l a m₀).count (get_or l a m₀).listed (lists a v) in
      rw (location_at_lem m₀ l n o) (fits a v (n - (get_or l a m₀).offset) (omega arith))

  -- two records of the stretch have one key
  pub record OneKey : Type 0 where
    pub first : ℕ
    pub second : ℕ
    pub order : first < second
    pub in_map : second < total (λ b. b.count) l
    pub same : key_of (record_at l first) ≡ key_of (record_at l second)

  pub by_key : (repeats l ≡ true) ↔ OneKey
  by_key = (to, from)
    where
      indices : (repeats l ≡ true) ↔ Twice m₀ l apart lists one some-each
      indices = by_index m₀ l apart lists one some-each

      to : repeats l ≡ true → OneKey
      to h =
          let t = indices.0 h in
          let k = same_place_key seven_sound (fits_at t.first (omega (arith, t.order, t.in_map)))
          (fits_at t.second t.in_map) t.same in
          record {
            first = t.first;
            second = t.second;
            order = t.order;
            in_map = t.in_map;
            same = rw (record_location l t.first, record_location l t.second) k;
          }

      from : OneKey → repeats l ≡ true
      from t =
          let k : key_of (record_of (location_at l t.first)) ≡ key_of (record_of (location_at l t.second)) =
          rw (record_location l t.first, record_location l t.second) at t.same in
          indices.1 (record {
            first = t.first;
            second = t.second;
            order = t.order;
            in_map = t.in_map;
            same = key_same_place seven_sound (fits_at t.first (omega (arith, t.order, t.in_map)))
                (fits_at t.second t.in_map) k;
          })
