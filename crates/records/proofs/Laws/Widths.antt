-- Two layouts: a location that fits the one fits the other, and its record is legal in both or in neither. Assumes nothing.
use Rattle.std.specs.Prelude.{◌≡◌, Bool, cond, ◌&&◌, ◌||◌}
use Rattle.std.proofs.Math.Path.{refl, ap}
use Rattle.std.proofs.Common.{sym, ◌∙◌, div-one, pow_pos, pow_mono}
use Rattle.std.proofs.Math.Bool.{true, false}
use Prim.Native.Nat.{ℕ, ◌+◌, ◌*◌, ◌-◌, ◌/◌, ◌%◌, ◌^◌, ◌<◌, ◌≤◌}
use native.Mathlib.Omega.{arith}
use Rattle.std.proofs.Math.Nat.{lt_of_lt_of_le, div-eq_of_lt, zero-mod}
use Rattle.std.proofs.Math.Dec.{leb, ltb}
use Rattle.std.proofs.Math.Pow.{pow-add}
use borrow.Author.Tests.{leb-true, lt-ltb, ltb-true, eq-eqb, ne_eqb}
use Rattle.lists.proofs.Laws.Booleans.{and_left}
use Rattle.records.specs.Limits.{most_vertex}
use Rattle.records.specs.Fields.{bits, parts_of}
use Rattle.records.specs.Width.{Width, five, seven, record_bits}
use Rattle.records.specs.Record.{Location, on_surface, in_volume, record_in, FitsIn, surface, volume, location_in, legal_in, carried}
use Rattle.records.specs.Record.{is_voxel_in, structure_in, payload_in, i_in, j_in, k_in}
use Rattle.records.specs.Record.{legal_record, widened}
use Rattle.records.proofs.Laws.Fields.{above}
use Rattle.records.proofs.Laws.Record.{Sound, five_sound, seven_sound, location_fits, location_back, record_back, record_below}

-- each part has as many bits in v as in w, or more
pub record Wider (v w : Width) : Type 0 where
  pub structure : w.structure ≤ v.structure
  pub vertex : w.vertex ≤ v.vertex
  pub i : w.i ≤ v.i
  pub j : w.j ≤ v.j
  pub k : w.k ≤ v.k

pub wider_same : (w : Width) → Wider w w
wider_same w = record { structure = omega arith; vertex = omega arith; i = omega arith; j = omega arith; k = omega arith }

pub seven_wider : Wider seven five
seven_wider = record { structure = omega arith; vertex = omega arith; i = omega arith; j = omega arith; k = omega arith }

pub fits_wider : {v w : Width} {l : Location} → Wider v w → FitsIn w l → FitsIn v l
fits_wider b (surface hs hv) = surface (lt_of_lt_of_le hs (pow_mono b.structure)) (lt_of_lt_of_le hv (pow_mono b.vertex))
fits_wider b (volume hs hi hj hk) =
    volume (lt_of_lt_of_le hs (pow_mono b.structure)) (lt_of_lt_of_le hi (pow_mono b.i))
    (lt_of_lt_of_le hj (pow_mono b.j)) (lt_of_lt_of_le hk (pow_mono b.k))

-- ---- Legality.

-- a vertex number is at most 1,048,575
unfoldable pub lawful_place : Location → Bool
lawful_place (on_surface s v) = leb v most_vertex
lawful_place (in_volume s i j k) = true

-- a record is legal by its size and its location
pub legal_place : (w : Width) (r : ℕ) → legal_in w r ≡ (ltb r (2 ^ record_bits w) && lawful_place (location_in w r))
unfolding legal_in location_in lawful_place
legal_place w r = ap (λ (b : Bool). ltb r (2 ^ record_bits w) && b) (by (is_voxel_in w r))
  where
    by : (b : Bool) → (b || leb (payload_in w r) most_vertex)
        ≡ lawful_place (cond b (in_volume (structure_in w r) (i_in w r) (j_in w r) (k_in w r)) (on_surface (structure_in w r) (payload_in w r)))
    by true = refl
    by false = refl

pub legal_size : (w : Width) (r : ℕ) → legal_in w r ≡ true → r < 2 ^ record_bits w
unfolding legal_in
legal_size w r e = ltb-true r (2 ^ record_bits w) (and_left (ltb r (2 ^ record_bits w)) _ e)

module _ {w : Width} (ok : Sound w) where
  -- a location that fits has a legal record exactly where it is lawful
  pub legal_made : {l : Location} → FitsIn w l → legal_in w (record_in w l) ≡ lawful_place l
  legal_made {l} f =
      legal_place w (record_in w l)
      ∙ ap (λ (b : Bool). b && lawful_place (location_in w (record_in w l))) (lt-ltb _ _ (record_below ok f))
      ∙ ap lawful_place (location_back ok f)

  -- a legal record is as it is
  pub carried_same : (r : ℕ) → legal_in w r ≡ true → carried w w r ≡ r
  carried_same r e = record_back ok r (legal_size w r e)

  -- legality by the first bit: without it the vertex counts, with it the size
  no_flag : (r : ℕ) → r < 2 ^ (w.structure + w.vertex) → is_voxel_in w r ≡ false
  unfolding is_voxel_in bits parts_of
  no_flag r h =
      let lone : w.structure + (w.vertex + 0) ≡ w.structure + w.vertex = omega arith in
      let none : r / 2 ^ (w.structure + (w.vertex + 0)) % 2 ^ w.flag ≡ 0 =
      ap (λ (n : ℕ). r / 2 ^ n % 2 ^ w.flag) lone ∙ ap (λ (n : ℕ). n % 2 ^ w.flag) (div-eq_of_lt h) ∙ zero-mod (2 ^ w.flag) in
      ne_eqb (r / 2 ^ (w.structure + (w.vertex + 0)) % 2 ^ w.flag) 1 (omega (arith, none))

  pub legal_low : (r : ℕ) → r < 2 ^ (w.structure + w.vertex) → leb (r % 2 ^ w.vertex) most_vertex ≡ legal_in w r
  unfolding legal_in payload_in bits parts_of
  legal_low r h =
      let small : r < 2 ^ record_bits w = lt_of_lt_of_le h (pow_mono (omega arith)) in
      rw (lt-ltb r (2 ^ record_bits w) small, no_flag r h, div-one)

  flagged : (r : ℕ) → 2 ^ (w.structure + w.vertex) ≤ r → r < 2 ^ record_bits w → is_voxel_in w r ≡ true
  unfolding is_voxel_in bits parts_of
  flagged r h small =
      let b : ℕ = 2 ^ (w.structure + w.vertex) in
      let lone : w.structure + (w.vertex + 0) ≡ w.structure + w.vertex = omega arith in
      let twice : 2 ^ record_bits w ≡ 2 * b =
      pow-add 2 w.flag (w.structure + w.vertex) ∙ ap (λ (n : ℕ). 2 ^ n * b) ok.flag in
      let sum : 1 * b + (r - b) ≡ r = omega arith in
      let one : r / b ≡ 1 = ap (λ (n : ℕ). n / b) (sym sum)
      ∙ above b (pow_pos (w.structure + w.vertex)) 1 (r - b) (omega (arith, twice)) in
      eq-eqb _ 1 (ap (λ (n : ℕ). r / 2 ^ n % 2 ^ w.flag) lone ∙ ap (λ (n : ℕ). n % 2 ^ w.flag) one
      ∙ ap (λ (n : ℕ). 1 % 2 ^ n) ok.flag)

  pub legal_high : (r : ℕ) → 2 ^ (w.structure + w.vertex) ≤ r → ltb r (2 ^ record_bits w) ≡ legal_in w r
  unfolding legal_in
  legal_high r h = by (ltb r (2 ^ record_bits w)) refl
    where
      by : (b : Bool) → ltb r (2 ^ record_bits w) ≡ b → b ≡ (b && (is_voxel_in w r || leb (payload_in w r) most_vertex))
      by true e = rw (flagged r h (ltb-true r (2 ^ record_bits w) e))
      by false e = refl

-- ---- From one layout to a wider one.

module _ {v w : Width} (okV : Sound v) (okW : Sound w) (wide : Wider v w) where
  -- the location stays
  pub carried_location : (r : ℕ) → location_in v (carried v w r) ≡ location_in w r
  carried_location r = location_back okV (fits_wider wide (location_fits w r))

  -- and so the record is made again from it
  pub carried_back : (r : ℕ) → legal_in w r ≡ true → carried w v (carried v w r) ≡ r
  carried_back r e = ap (record_in w) (carried_location r) ∙ carried_same okW r e

  -- what is carried is legal exactly where it was
  pub legal_carried : (r : ℕ) → r < 2 ^ record_bits w → legal_in v (carried v w r) ≡ legal_in w r
  legal_carried r h =
      legal_made okV (fits_wider wide (location_fits w r))
      ∙ sym (legal_place w r ∙ ap (λ (b : Bool). b && lawful_place (location_in w r)) (lt-ltb r (2 ^ record_bits w) h))

-- a record of a sheet of five, widened, is legal exactly where it was
pub legal_widened : (r : ℕ) → r < 2 ^ record_bits five → legal_record (widened r) ≡ legal_in five r
legal_widened = legal_carried seven_sound five_sound seven_wider

-- A record of 40 bits that is legal in 54 too is a vertex of structure 0, and the same in both: an old table is refused, or means what
-- it meant.
pub old_record : (r : ℕ) → legal_in five r ≡ true → legal_record r ≡ true → r ≤ most_vertex
old_record r e h =
    let short = legal_size five r e in
    let small = leb-true (r % 2 ^ 48) most_vertex (legal_low seven_sound r (omega arith) ∙ h) in
    omega arith

pub old_location : (r : ℕ) → r ≤ most_vertex → location_in five r ≡ location_in seven r
unfolding location_in is_voxel_in structure_in payload_in bits parts_of
old_location r h =
    let a : r / 2 ^ 34 % 32 ≡ 0 = omega arith in
    let b : r / 2 ^ 48 % 32 ≡ 0 = omega arith in
    let c : r % 2 ^ 34 ≡ r = omega arith in
    let d : r % 2 ^ 48 ≡ r = omega arith in
    rw (ne_eqb (r / 2 ^ 39 % 2) 1 (omega arith), ne_eqb (r / 2 ^ 53 % 2) 1 (omega arith), div-one, a, b, c, d)
