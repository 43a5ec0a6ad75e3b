-- A record and its location give each other, whatever the layout; what keys tell. Assumes nothing.
use Rattle.std.specs.Prelude.{◌≡◌, Bool, cond, ◌&&◌, eqb, ltb, get_or}
use Rattle.std.proofs.Math.Path.{refl, sym, ap, subst}
use Rattle.std.proofs.Common.{◌∙◌, mod-eq_of_lt, pow_pos, eqb-true, ltb-true}
use mathlib.Core.List.{List, [], ◌∷◌, map}
use Rattle.std.proofs.Math.Bool.{true, false}
use Prim.Native.Nat.{ℕ, ◌+◌, ◌*◌, ◌/◌, ◌%◌, ◌^◌, ◌<◌}
use native.Mathlib.Omega.{arith}
use Rattle.std.proofs.Math.Nat.{mod-lt, zero-mod, zero-div}
use Rattle.std.proofs.Math.ListN.{get_or-map}
use Rattle.std.proofs.lemmas.Bool.{eqb-false}
use Rattle.lists.proofs.Laws.Booleans.{and_left, and_right, clash}
use Rattle.records.specs.Fields.{bits, joined, parts_of, Fit, none, more}
use Rattle.records.proofs.Laws.Fields.{joined_below, parted_joined, joined_parted}
use Rattle.records.specs.Width.{Width, five, seven, surface_bits, payload_bits, voxel_bits, record_bits, sound}
use Rattle.records.specs.Record.{Location, on_surface, in_volume, record_in, FitsIn, surface, volume, within_in}
use Rattle.records.specs.Record.{SamePlace, same_vertex, same_voxel, unstructured, record_key_in, key_of}
use Rattle.records.specs.Record.{is_voxel_in, structure_in, payload_in, i_in, j_in, k_in, location_in}

-- a location that fits is as it is
pub within_fits : {w : Width} {l : Location} → FitsIn w l → within_in w l ≡ l
unfolding within_in
within_fits (surface hs hv) = rw (mod-eq_of_lt hs, mod-eq_of_lt hv)
within_fits (volume hs hi hj hk) = rw (mod-eq_of_lt hs, mod-eq_of_lt hi, mod-eq_of_lt hj, mod-eq_of_lt hk)

pub location_fits : (w : Width) (r : ℕ) → FitsIn w (location_in w r)
unfolding location_in structure_in payload_in i_in j_in k_in bits parts_of
location_fits w r = by (is_voxel_in w r)
  where
    by : (b : Bool)
        → FitsIn w (cond b (in_volume (structure_in w r) (i_in w r) (j_in w r) (k_in w r)) (on_surface (structure_in w r) (payload_in w r)))
    by true = volume (mod-lt _ (pow_pos w.structure)) (mod-lt _ (pow_pos w.i)) (mod-lt _ (pow_pos w.j)) (mod-lt _ (pow_pos w.k))
    by false = surface (mod-lt _ (pow_pos w.structure)) (mod-lt _ (pow_pos w.vertex))

plain_fits : {w : Width} {l : Location} → FitsIn w l → FitsIn w (unstructured l)
unfolding unstructured
plain_fits (surface hs hv) = surface hs hv
plain_fits {w} (volume hs hi hj hk) = volume {s = 0} (pow_pos w.structure) hi hj hk

-- what a sound layout is
pub record Sound (w : Width) : Type 0 where
  pub flag : w.flag ≡ 1
  pub payload : w.i + (w.j + w.k) ≡ w.vertex
  pub whole : record_bits w + w.ending ≡ 8 * w.bytes
  pub byte : w.bytes < 256

pub sound_is : (w : Width) → sound w ≡ true → Sound w
unfolding sound
sound_is w h =
    let a = eqb w.flag 1 in
    let b = eqb (w.i + (w.j + w.k)) w.vertex in
    let c = eqb (record_bits w + w.ending) (8 * w.bytes) in
    let d = ltb w.bytes 256 in
    let p = and_right a (b && (c && d)) h in
    let q = and_right b (c && d) p in
    record {
      flag = eqb-true w.flag 1 (and_left a (b && (c && d)) h);
      payload = eqb-true (w.i + (w.j + w.k)) w.vertex (and_left b (c && d) p);
      whole = eqb-true (record_bits w + w.ending) (8 * w.bytes) (and_left c d q);
      byte = ltb-true w.bytes 256 (and_right c d q);
    }

pub seven_sound : Sound seven
unfolding sound
seven_sound = sound_is seven refl

pub five_sound : Sound five
unfolding sound
five_sound = sound_is five refl

module _ {w : Width} (ok : Sound w) where
  -- both payloads are as long
  payload_bits_lem : bits (payload_bits w) ≡ bits (w.vertex ∷ [])
  unfolding bits
  payload_bits_lem = omega (arith, ok.payload)

  record_bits_lem : bits (surface_bits w) ≡ record_bits w
  unfolding bits
  record_bits_lem = omega arith

  voxel_bits_lem : bits (voxel_bits w) ≡ record_bits w
  unfolding bits
  voxel_bits_lem = omega (arith, ok.payload)

  -- the payload of a voxel
  payload_whole : (s i j k : ℕ)
      → joined (voxel_bits w) (1 ∷ s ∷ i ∷ j ∷ k ∷ []) ≡ joined (surface_bits w) (1 ∷ s ∷ joined (payload_bits w) (i ∷ j ∷ k ∷ []) ∷ [])
  unfolding bits joined
  payload_whole s i j k =
      let p : ℕ = joined (payload_bits w) (i ∷ j ∷ k ∷ []) in
      let lone : p ≡ p * 2 ^ 0 + 0 = omega arith in
      ap (λ (n : ℕ). 1 * 2 ^ (w.structure + n) + (s * 2 ^ n + p)) payload_bits_lem
      ∙ ap (λ (n : ℕ). 1 * 2 ^ (w.structure + bits (w.vertex ∷ [])) + (s * 2 ^ bits (w.vertex ∷ []) + n)) lone

  -- the parts of a voxel are those of a surface, with the payload parted
  top_parts : (r : ℕ)
      → parts_of (voxel_bits w) r ≡ get_or (parts_of (surface_bits w) r) 0 0 ∷ get_or (parts_of (surface_bits w) r) 1 0 ∷ parts_of (payload_bits w) r
  unfolding bits parts_of
  top_parts r =
      ap (λ (n : ℕ). r / 2 ^ (w.structure + n) % 2 ^ w.flag ∷ r / 2 ^ n % 2 ^ w.structure ∷ parts_of (payload_bits w) r)
      payload_bits_lem

  flag_below : (r : ℕ) → get_or (parts_of (surface_bits w) r) 0 0 < 2
  unfolding bits parts_of
  flag_below r =
      let q : ℕ = r / 2 ^ (w.structure + (w.vertex + 0)) in
      let h : q % 2 ^ w.flag < 2 ^ w.flag = mod-lt q (pow_pos w.flag) in
      subst (λ (n : ℕ). q % 2 ^ w.flag < 2 ^ n) ok.flag h

  one_flag : 1 < 2 ^ w.flag
  one_flag = rw ok.flag (omega arith)

  payload_fits : {i j k : ℕ} → i < 2 ^ w.i → j < 2 ^ w.j → k < 2 ^ w.k → Fit (payload_bits w) (i ∷ j ∷ k ∷ [])
  payload_fits hi hj hk = more hi (more hj (more hk none))

  payload_below : {i j k : ℕ} → i < 2 ^ w.i → j < 2 ^ w.j → k < 2 ^ w.k → joined (payload_bits w) (i ∷ j ∷ k ∷ []) < 2 ^ w.vertex
  unfolding bits
  payload_below {i} {j} {k} hi hj hk =
      let same : bits (payload_bits w) ≡ w.vertex = omega (arith, ok.payload) in
      subst (λ (n : ℕ). joined (payload_bits w) (i ∷ j ∷ k ∷ []) < 2 ^ n) same (joined_below (payload_fits hi hj hk))

  -- a record has no more bits than the layout
  pub record_below : {l : Location} → FitsIn w l → record_in w l < 2 ^ record_bits w
  unfolding record_in
  record_below (surface {s} {v} hs hv) =
      subst (λ (n : ℕ). joined (surface_bits w) (0 ∷ s ∷ v ∷ []) < 2 ^ n) record_bits_lem
      (joined_below (more (pow_pos w.flag) (more hs (more hv none))))
  record_below (volume {s} {i} {j} {k} hs hi hj hk) =
      subst (λ (n : ℕ). joined (voxel_bits w) (1 ∷ s ∷ i ∷ j ∷ k ∷ []) < 2 ^ n) voxel_bits_lem
      (joined_below (more one_flag (more hs (payload_fits hi hj hk))))

  -- the location is read back from its record
  pub location_back : {l : Location} → FitsIn w l → location_in w (record_in w l) ≡ l
  unfolding record_in location_in is_voxel_in structure_in payload_in i_in j_in k_in
  location_back (surface {s} {v} hs hv) =
      let e : parts_of (surface_bits w) (joined (surface_bits w) (0 ∷ s ∷ v ∷ [])) ≡ 0 ∷ s ∷ v ∷ [] =
      parted_joined (more (pow_pos w.flag) (more hs (more hv none))) in
      rw e
  location_back (volume {s} {i} {j} {k} hs hi hj hk) =
      let f = payload_fits hi hj hk in
      let p : ℕ = joined (payload_bits w) (i ∷ j ∷ k ∷ []) in
      let top : parts_of (surface_bits w) (joined (voxel_bits w) (1 ∷ s ∷ i ∷ j ∷ k ∷ [])) ≡ 1 ∷ s ∷ p ∷ [] =
      ap (parts_of (surface_bits w)) (payload_whole s i j k) ∙ parted_joined (more one_flag (more hs (more (payload_below hi hj hk) none))) in
      let e : parts_of (voxel_bits w) (joined (voxel_bits w) (1 ∷ s ∷ i ∷ j ∷ k ∷ [])) ≡ 1 ∷ s ∷ i ∷ j ∷ k ∷ [] =
      parted_joined (more one_flag (more hs f)) in
      rw (top, e)

  flag_none : (f : ℕ) → f < 2 → (f ≡ 1 → ⊥) → 0 ≡ f
  flag_none f h ne = omega arith

  -- the record is made again from its location
  pub record_whole : (r : ℕ) → record_in w (location_in w r) ≡ r % 2 ^ record_bits w
  unfolding record_in location_in is_voxel_in structure_in payload_in i_in j_in k_in parts_of
  record_whole r = by (is_voxel_in w r) refl
    where
      by : (b : Bool) → is_voxel_in w r ≡ b
          → record_in w (cond b (in_volume (structure_in w r) (i_in w r) (j_in w r) (k_in w r)) (on_surface (structure_in w r) (payload_in w r)))
          ≡ r % 2 ^ record_bits w
      by true e =
          ap (λ (f : ℕ). joined (voxel_bits w) (f ∷ structure_in w r ∷ i_in w r ∷ j_in w r ∷ k_in w r ∷ [])) (sym (eqb-true _ _ e))
          ∙ ap (joined (voxel_bits w)) (sym (top_parts r))
          ∙ joined_parted (voxel_bits w) r
          ∙ ap (λ (n : ℕ). r % 2 ^ n) voxel_bits_lem
      by false e =
          ap (λ (f : ℕ). joined (surface_bits w) (f ∷ structure_in w r ∷ payload_in w r ∷ [])) (flag_none _ (flag_below r) (eqb-false _ _ e))
          ∙ joined_parted (surface_bits w) r
          ∙ ap (λ (n : ℕ). r % 2 ^ n) record_bits_lem

  pub record_back : (r : ℕ) → r < 2 ^ record_bits w → record_in w (location_in w r) ≡ r
  record_back r h = record_whole r ∙ mod-eq_of_lt h

-- ---- Keys.

same_plain : {a b : Location} → SamePlace a b → unstructured a ≡ unstructured b
unfolding unstructured
same_plain same_vertex = refl
same_plain same_voxel = refl

renamed : ℕ → Location → Location
renamed s (on_surface t v) = on_surface t v
renamed s (in_volume t i j k) = in_volume s i j k

plain_same : (a b : Location) → unstructured a ≡ unstructured b → SamePlace a b
unfolding unstructured renamed
plain_same (on_surface s v) (on_surface t w) e = subst (λ (l : Location). SamePlace (on_surface s v) l) e same_vertex
plain_same (on_surface s v) (in_volume t x y z) e = clash cc
plain_same (in_volume s i j k) (on_surface t w) e = clash cc
plain_same (in_volume s i j k) (in_volume t x y z) e = subst (λ (l : Location). SamePlace (in_volume s i j k) (renamed t l)) e same_voxel

module _ {w : Width} (ok : Sound w) where
  -- records have the same key exactly where they name the same place
  pub same_key_lem : (r q : ℕ) → SamePlace (location_in w r) (location_in w q) → record_key_in w r ≡ record_key_in w q
  unfolding record_key_in
  same_key_lem r q p = ap (record_in w) (same_plain p)

  pub key_same : (r q : ℕ) → record_key_in w r ≡ record_key_in w q → SamePlace (location_in w r) (location_in w q)
  unfolding record_key_in
  key_same r q e =
      plain_same (location_in w r) (location_in w q)
      (sym (location_back ok (plain_fits (location_fits w r))) ∙ ap (location_in w) e ∙ location_back ok (plain_fits (location_fits w q)))

  -- the same of locations and their records
  pub same_place_key : {a b : Location} → FitsIn w a → FitsIn w b → SamePlace a b
      → record_key_in w (record_in w a) ≡ record_key_in w (record_in w b)
  unfolding record_key_in
  same_place_key f g p =
      ap (λ (l : Location). record_in w (unstructured l)) (location_back ok f)
      ∙ ap (record_in w) (same_plain p)
      ∙ sym (ap (λ (l : Location). record_in w (unstructured l)) (location_back ok g))

  pub key_same_place : {a b : Location} → FitsIn w a → FitsIn w b → record_key_in w (record_in w a) ≡ record_key_in w (record_in w b)
      → SamePlace a b
  key_same_place {a} {b} f g e =
      subst (λ (l : Location). SamePlace a l) (location_back ok g)
      (subst (λ (l : Location). SamePlace l (location_in w (record_in w b))) (location_back ok f) (key_same (record_in w a) (record_in w b) e))

  -- a surface's key is its record, a voxel's has no structure
  pub key_surface : (r : ℕ) → is_voxel_in w r ≡ false → record_key_in w r ≡ r % 2 ^ record_bits w
  unfolding record_key_in location_in unstructured
  key_surface r e = rw e (sym whole ∙ record_whole ok r)
    where
      whole : record_in w (location_in w r) ≡ record_in w (on_surface (structure_in w r) (payload_in w r))
      whole = rw e

  pub key_voxel : (r : ℕ) → is_voxel_in w r ≡ true → record_key_in w r ≡ 2 ^ (w.structure + w.vertex) + r % 2 ^ w.vertex
  unfolding record_key_in location_in unstructured record_in i_in j_in k_in bits joined parts_of
  key_voxel r e = rw e (sum ∙ ap (λ (n : ℕ). 2 ^ (w.structure + n) + r % 2 ^ n) (payload_bits_lem ok ∙ lone))
    where
      lone : w.vertex + 0 ≡ w.vertex
      lone = omega arith

      sum : 1 * 2 ^ (w.structure + bits (payload_bits w))
          + (0 * 2 ^ bits (payload_bits w) + joined (payload_bits w) (parts_of (payload_bits w) r))
          ≡ 2 ^ (w.structure + bits (payload_bits w)) + r % 2 ^ bits (payload_bits w)
      sum = let h = joined_parted (payload_bits w) r in omega arith

zero_flag : (w : Width) → is_voxel_in w 0 ≡ false
unfolding is_voxel_in bits parts_of
zero_flag w = rw (zero-div, zero-mod)

zero_key : {w : Width} → Sound w → record_key_in w 0 ≡ 0
zero_key {w} ok = key_surface ok 0 (zero_flag w) ∙ zero-mod (2 ^ record_bits w)

-- the key at a place of a list of keys
pub key_place : {w : Width} → Sound w → (rs : List ℕ) (i : ℕ) → get_or (map (record_key_in w) rs) i 0 ≡ record_key_in w (get_or rs i 0)
key_place {w} ok rs i = ap (get_or (map (record_key_in w) rs) i) (sym (zero_key ok)) ∙ get_or-map (record_key_in w) rs i 0

pub key_at : (rs : List ℕ) (i : ℕ) → get_or (map key_of rs) i 0 ≡ key_of (get_or rs i 0)
key_at = key_place seven_sound
