-- Bytes gathered until four are held, and the key of four bytes, as the code keeps them.
use Rattle.std.specs.Prelude.{◌≡◌, List, [], ◌++◌, Bool, cond, ℕ, ◌/◌, ◌%◌, ◌^◌, ◌<◌, ◌≤◌, ltb, ℤ}
use Rattle.nodes.specs.Texts.{left}
use Rattle.base64_text.specs.Fours.{in_endian, bits32, twos}
use Rattle.base64_reader.specs.Groups.{letters_at, low_bytes, bytes_ahead}
use Rattle.array_keys.specs.Ahead.{bytes_from, endian_if}
use Rattle.array_keys.specs.declared.KeyPlace.{KeyPlace}

unfoldable pub kept_bytes : ℕ → ℕ
kept_bytes n = cond (ltb n 4) n 0

-- one to three bytes, as one number
pub record BytesRead (more count : ℕ) : Type 0 where
  pub some_read : 1 ≤ count
  pub few : count ≤ 3
  pub small : more < 256 ^ count

-- The bytes held and ahead of a place are those held and ahead of another; four and more are held there, or no more are ahead.
pub record BytesGathered (text : List ℕ) (from to : KeyPlace) : Type 0 where
  pub same : bytes_from text from ≡ low_bytes to.bytes to.held ++ bytes_ahead (letters_at text to.at)
  pub few : to.bytes ≤ 6
  pub ended : to.bytes < 4 → bytes_ahead (letters_at text to.at) ≡ []
  pub fallen : 4 ≤ to.bytes → left text to.at < left text from.at

-- the key of four bytes that stand in a number, the first the greatest
unfoldable pub key_by : Bool → ℕ → ℤ
key_by t n = twos (in_endian (endian_if t) bits32 (n / 16777216) (n / 65536 % 256) (n / 256 % 256) (n % 256))
