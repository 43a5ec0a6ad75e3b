-- KEYS MANY AT A TIME, in a slice: those from a place on, as many as there is room for.
use Rattle.std.specs.Prelude.{◌≡◌, Bool, true, false, List, [], ◌++◌, ℕ, ◌+◌, ◌*◌, ◌/◌, ◌%◌, ◌≤◌, ◌<◌, ℤ, length, take, drop, set}
use Rattle.array_keys.specs.Ahead.{keys_ahead, keys_left, spare_bytes, encoding_if}
use Rattle.array_keys.specs.Gathered.{key_by}
use Rattle.array_keys.specs.declared.Encoding.{Encoding}
use Rattle.array_keys.specs.declared.KeyPlace.{KeyPlace}
use Rattle.array_keys.specs.declared.rows.KeyRow.{KeyRow}

-- WHAT `fill_from` PROMISES: so many keys at the front of the slice, what lies past them as it was, and the others ahead of the place
-- behind them. Where there is room left, there are no others, and it tells how many bytes are left over.
pub record RowTold (encoding : Encoding) (text : List ℕ) (from : KeyPlace) (before : List ℤ) (r : KeyRow) (after : List ℤ) : Type 0 where
  pub within : r.count ≤ length before
  pub past : after ≡ take r.count after ++ drop r.count before
  pub keys : keys_ahead encoding text from ≡ take r.count after ++ keys_ahead encoding text r.next
  pub spare : spare_bytes encoding text from ≡ spare_bytes encoding text r.next
  pub fewer : r.count + keys_left text r.next ≤ keys_left text from
  pub ended : r.count < length before → (keys_ahead encoding text r.next ≡ []) × (r.spare ≡ spare_bytes encoding text r.next)

-- From a place and a count of keys in a slice on to others: the keys got between them stand in the slice behind those before.
pub record Run (encoding : Encoding) (text : List ℕ) (p : KeyPlace) (n : ℕ) (s : List ℤ) (q : KeyPlace) (m : ℕ) (t : List ℤ)
    : Type 0 where
  pub got : List ℤ
  pub further : n ≤ m
  pub within : n ≤ length s → m ≤ length s
  pub long : length t ≡ length s
  pub front : take m t ≡ take n s ++ got
  pub past : drop m t ≡ drop m s
  pub keys : keys_ahead encoding text p ≡ got ++ keys_ahead encoding text q
  pub spare : spare_bytes encoding text p ≡ spare_bytes encoding text q
  pub fewer : m + keys_left text q ≤ n + keys_left text p

-- a place with no bytes held
abbrev pub bare_at : ℕ → KeyPlace
bare_at at = record { at = at; held = 0; bytes = 0 }

-- 24 bits each
pub record FourBits (a b c d : ℕ) : Type 0 where
  pub first : a < 16777216
  pub second : b < 16777216
  pub third : c < 16777216
  pub fourth : d < 16777216

-- the three keys of four times 24 bits, from the place n of a slice on
unfoldable pub with_three : Bool → (a b c d n : ℕ) → List ℤ → List ℤ
with_three little a b c d n s =
    set (set (set s n (key_by little (a * 256 + b / 65536))) (n + 1) (key_by little (b % 65536 * 65536 + c / 256))) (n + 2)
    (key_by little (c % 256 * 16777216 + d))

-- sixteen plain letters are read as three keys; or nothing is
pub record ThreeTold (little : Bool) (text : List ℕ) (at n : ℕ) (before : List ℤ) (r : Bool) (after : List ℤ) : Type 0 where
  pub inside : r ≡ true → at + 16 ≤ length text
  pub run : r ≡ true → Run (encoding_if little) text (bare_at at) n before (bare_at (at + 16)) (n + 3) after
  pub none : r ≡ false → after ≡ before
