-- THE LAYOUT OF A RECORD, as one value: the bits of its parts, the most significant first, and its bytes in a sheet. Assumes nothing.
use Rattle.std.specs.Prelude.{List, [], ◌∷◌, Bool, cond, ◌&&◌, ℕ, ◌+◌, ◌*◌, eqb, ltb}

pub record Width : Type 0 where
  -- bits of the voxel flag, and of the structure
  pub flag : ℕ
  pub structure : ℕ
  -- bits of the payload: a surface's vertex number, a voxel's i, j and k
  pub vertex : ℕ
  pub i : ℕ
  pub j : ℕ
  pub k : ℕ
  -- bytes of a record in a sheet, and how many bits at their end are 0
  pub bytes : ℕ
  pub ending : ℕ

-- Records that are read and written, and sheets of 7 bytes a record. Voxel flag 1, structure 5, payload 48: the vertex number, or i, j
-- and k in 16 bits each.
abbrev pub seven : Width
seven = record { flag = 1; structure = 5; vertex = 48; i = 16; j = 16; k = 16; bytes = 7; ending = 2 }

-- Sheets of 5 bytes a record, which are still unpacked. Payload 34: the vertex number, or i in 11 bits, j in 11, k in 12.
abbrev pub five : Width
five = record { flag = 1; structure = 5; vertex = 34; i = 11; j = 11; k = 12; bytes = 5; ending = 0 }

abbrev pub surface_bits : Width → List ℕ
surface_bits w = w.flag ∷ w.structure ∷ w.vertex ∷ []

abbrev pub payload_bits : Width → List ℕ
payload_bits w = w.i ∷ w.j ∷ w.k ∷ []

abbrev pub voxel_bits : Width → List ℕ
voxel_bits w = w.flag ∷ w.structure ∷ payload_bits w

-- bits of a record
abbrev pub record_bits : Width → ℕ
record_bits w = w.flag + (w.structure + w.vertex)

-- what the laws ask of a layout: a flag of one bit, both payloads as long, a record and its end bits whole bytes, whose number is a byte
unfoldable pub sound : Width → Bool
sound w =
    eqb w.flag 1
    && (eqb (w.i + (w.j + w.k)) w.vertex
    && (eqb (record_bits w + w.ending) (8 * w.bytes)
    && ltb w.bytes 256))

-- the layout that the first byte of a sheet says: 5 says five; any other is held to be seven, whose sheets say 7
unfoldable pub width_said : ℕ → Width
width_said b = cond (eqb b 5) five seven
