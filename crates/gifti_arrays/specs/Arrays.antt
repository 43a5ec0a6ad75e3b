-- WHAT IS TOLD OF ARRAYS: how an array writes its keys; how many they are, and how many stand in a part of the table.
use Rattle.std.specs.Prelude.{◌≡◌, true, cond, List, ℕ, suc, ◌%◌, ◌^◌, ◌≤◌, ◌<◌, ℤ, length, Option, Some, None}
use Rattle.lists.specs.Lists.{all, each_in}
use Rattle.grammar.specs.Bytes.{ascii}
use Rattle.grammar.specs.Document.{Element}
use Rattle.grammar.specs.Look.{has}
use Rattle.inside.specs.Treads.{child_named}
use Rattle.numbers.specs.Numbers.{in_keys}
use Rattle.base64_text.specs.Fours.{coded_bytes}
use Rattle.known_keys.specs.Known.{known_in}
use Rattle.gifti.specs.Arrays.{arrays_of, is_coded, data_of, dim0, array_keys, fills_dim0}
use Rattle.array_keys.specs.Ahead.{keys_ahead, spare_bytes, keys_start}
use Rattle.array_keys.specs.declared.Encoding.{Encoding}
use Rattle.array_keys.specs.declared.Encoding.TheVariants.{Plain, Big, Little}
use Rattle.known_keys.specs.Known.{codes_of}
use Rattle.gifti_arrays.specs.declared.array.ArrayNote.{ArrayNote}
use Rattle.gifti_arrays.specs.declared.array.ArrayTold.{ArrayTold}
use Rattle.gifti_arrays.specs.declared.arrays.Told.{Told}

-- ---- An array.

unfoldable pub encoding_of : Element → Encoding
encoding_of a = cond (is_coded a) (cond (has "Endian" "BigEndian" a) Big Little) Plain

unfoldable pub or_start : Option ℕ → ℕ
or_start None = 0
or_start (Some k) = k

-- the place of its first Data
unfoldable pub data_at : List ℕ → ℕ → ℕ
data_at text at = or_start (child_named (ascii "Data") 0 text at)

-- how many bytes are left over behind its last key
unfoldable pub spare_of : Element → ℕ
spare_of a = cond (is_coded a) (coded_bytes (data_of a) % 4) 0

pub record ArrayNoted (text : List ℕ) (a : Element) (n : ArrayNote) : Type 0 where
  pub keys_are : keys_ahead n.encoding text (keys_start text n.from) ≡ array_keys a
  pub spare_is : spare_bytes n.encoding text (keys_start text n.from) ≡ spare_of a
  pub count_is : n.count ≡ dim0 a

pub record ToldArray (text : List ℕ) (a : Element) (codes : List ℕ) (r : ArrayTold) : Type 0 where
  pub fitting : r.fits ≡ fills_dim0 a
  pub counted : r.keys ≡ length (array_keys a)
  pub found : r.known ≡ known_in codes (codes_of (array_keys a))
  pub in_range_lem : all in_keys (array_keys a) ≡ true
  pub few : r.keys ≤ suc (length text)

-- ---- All arrays: their keys in a row.

unfoldable pub keys_of_all : List Element → List ℤ
keys_of_all l = each_in array_keys l

pub record ArraysTold (e : Element) (codes : List ℕ) (r : Told) : Type 0 where
  pub many : r.arrays ≡ length (arrays_of e)
  pub fitting : r.fit ≡ all fills_dim0 (arrays_of e)
  pub counted : r.keys ≡ length (keys_of_all (arrays_of e))
  pub found : r.known ≡ known_in codes (codes_of (keys_of_all (arrays_of e)))
  pub in_range_lem : all in_keys (keys_of_all (arrays_of e)) ≡ true
  pub few : r.keys ≤ 2 ^ 62

-- ---- The table, in turns: there is room for a key.

pub record Room (work : List ℕ) : Type 0 where
  pub some : 0 < length work
