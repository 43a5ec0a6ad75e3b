-- THE KEYS OF AN ARRAY, COUNTED: how many they are, how many of them stand in a part of the table, by their codes, and how
-- many bytes are left over behind the last.
use Rattle.std.specs.Prelude.{◌≡◌, true, List, ℕ, suc, ◌≤◌, ◌<◌, ℤ, length}
use Rattle.lists.specs.Lists.{all}
use Rattle.numbers.specs.Numbers.{in_keys}
use Rattle.known_keys.specs.Known.{known_in, codes_of}
use Rattle.array_keys.specs.Ahead.{keys_ahead, spare_bytes}
use Rattle.array_keys.specs.declared.Encoding.{Encoding}
use Rattle.array_keys.specs.declared.KeyPlace.{KeyPlace}
use Rattle.gifti_arrays.specs.declared.tally.Tally.{Tally}

-- there is room for a key
pub record RowRoom (row : List ℤ) : Type 0 where
  pub some : 0 < length row

-- the keys from a place on
pub record Tallied (encoding : Encoding) (text : List ℕ) (from : KeyPlace) (codes : List ℕ) (r : Tally) : Type 0 where
  pub counted : r.keys ≡ length (keys_ahead encoding text from)
  pub found : r.known ≡ known_in codes (codes_of (keys_ahead encoding text from))
  pub left_over : r.spare ≡ spare_bytes encoding text from
  pub in_range_lem : all in_keys (keys_ahead encoding text from) ≡ true
  pub few : r.keys ≤ suc (length text)
