-- RECORDS: a location, and the whole number that stands for it in a layout w of bits. Assumes nothing.
use Rattle.std.specs.Prelude.{[], ◌∷◌, Bool, cond, ◌&&◌, ◌||◌, ℕ, ◌%◌, ◌^◌, ◌<◌, eqb, leb, ltb, get_or}
use Rattle.records.specs.Limits.{most_vertex}
use Rattle.records.specs.Fields.{bits, joined, parts_of}
use Rattle.records.specs.Width.{Width, five, seven, surface_bits, voxel_bits, record_bits}

pub data Location : Type 0 where
  on_surface : (structure vertex : ℕ) → Location
  in_volume : (structure i j k : ℕ) → Location

unfoldable pub record_in : Width → Location → ℕ
record_in w (on_surface s v) = joined (surface_bits w) (0 ∷ s ∷ v ∷ [])
record_in w (in_volume s i j k) = joined (voxel_bits w) (1 ∷ s ∷ i ∷ j ∷ k ∷ [])

-- each part of the location fits its bits
pub data FitsIn (w : Width) : Location → Type 0 where
  surface : {s v : ℕ} → s < 2 ^ w.structure → v < 2 ^ w.vertex → FitsIn w (on_surface s v)
  volume : {s i j k : ℕ} → s < 2 ^ w.structure → i < 2 ^ w.i → j < 2 ^ w.j → k < 2 ^ w.k → FitsIn w (in_volume s i j k)

-- each part taken modulo what its bits can hold
unfoldable pub within_in : Width → Location → Location
within_in w (on_surface s v) = on_surface (s % 2 ^ w.structure) (v % 2 ^ w.vertex)
within_in w (in_volume s i j k) = in_volume (s % 2 ^ w.structure) (i % 2 ^ w.i) (j % 2 ^ w.j) (k % 2 ^ w.k)

-- the parts of a record
unfoldable pub is_voxel_in : Width → ℕ → Bool
is_voxel_in w r = eqb (get_or (parts_of (surface_bits w) r) 0 0) 1

unfoldable pub structure_in : Width → ℕ → ℕ
structure_in w r = get_or (parts_of (surface_bits w) r) 1 0

unfoldable pub payload_in : Width → ℕ → ℕ
payload_in w r = get_or (parts_of (surface_bits w) r) 2 0

unfoldable pub i_in : Width → ℕ → ℕ
i_in w r = get_or (parts_of (voxel_bits w) r) 2 0

unfoldable pub j_in : Width → ℕ → ℕ
j_in w r = get_or (parts_of (voxel_bits w) r) 3 0

unfoldable pub k_in : Width → ℕ → ℕ
k_in w r = get_or (parts_of (voxel_bits w) r) 4 0

unfoldable pub location_in : Width → ℕ → Location
location_in w r =
    cond (is_voxel_in w r)
    (in_volume (structure_in w r) (i_in w r) (j_in w r) (k_in w r))
    (on_surface (structure_in w r) (payload_in w r))

-- A legal record has no more bits than a record, and a surface payload is at most 1,048,575.
unfoldable pub legal_in : Width → ℕ → Bool
legal_in w r = ltb r (2 ^ record_bits w) && (is_voxel_in w r || leb (payload_in w r) most_vertex)

-- one vertex of one structure, or one voxel, whichever structures name it
pub data SamePlace : Location → Location → Type 0 where
  same_vertex : {s v : ℕ} → SamePlace (on_surface s v) (on_surface s v)
  same_voxel : {s s' i j k : ℕ} → SamePlace (in_volume s i j k) (in_volume s' i j k)

-- a voxel without its structure
unfoldable pub unstructured : Location → Location
unstructured (on_surface s v) = on_surface s v
unstructured (in_volume s i j k) = in_volume 0 i j k

-- a number that records share exactly where they name the same place
unfoldable pub record_key_in : Width → ℕ → ℕ
record_key_in w r = record_in w (unstructured (location_in w r))

-- the record in v of the location that a record in w names
abbrev pub carried : (v w : Width) → ℕ → ℕ
carried v w r = record_in v (location_in w r)

-- ---- Of the 54 bits that are read and written.

abbrev pub record_of : Location → ℕ
record_of l = record_in seven l

abbrev pub Fits : Location → Type 0
Fits l = FitsIn seven l

abbrev pub wrapped : Location → Location
wrapped l = within_in seven l

abbrev pub is_voxel : ℕ → Bool
is_voxel r = is_voxel_in seven r

abbrev pub structure_of : ℕ → ℕ
structure_of r = structure_in seven r

abbrev pub payload_of : ℕ → ℕ
payload_of r = payload_in seven r

abbrev pub i_of : ℕ → ℕ
i_of r = i_in seven r

abbrev pub j_of : ℕ → ℕ
j_of r = j_in seven r

abbrev pub k_of : ℕ → ℕ
k_of r = k_in seven r

unfoldable pub location_of : ℕ → Location
unfolding location_in
location_of r = location_in seven r

abbrev pub legal_record : ℕ → Bool
legal_record r = legal_in seven r

abbrev pub key_of : ℕ → ℕ
key_of r = record_key_in seven r

-- the record of the location that a record of a sheet of five names
abbrev pub widened : ℕ → ℕ
widened r = carried seven five r

-- opens every definition above
unfoldable pub record_words : Unit {0}
unfolding bits joined parts_of record_in within_in is_voxel_in structure_in payload_in i_in j_in k_in location_in location_of legal_in unstructured
    record_key_in
record_words = tt
