-- DEMAND 2 OF GIFTI KEYS: what an accepted call writes is what the array writes, and every key of it has a Label.
use Rattle.std.specs.Prelude.{◌≡◌, List, [], ℕ, ◌<◌, ℤ, pos, length, get_or}
use Rattle.lists.specs.Lists.{each}
use Rattle.grammar.specs.Document.{Element}
use Rattle.gifti.specs.Arrays.{arrays_of, dim0, array_keys, known_keys}

-- as many keys as Dim0 of the array says, at place n the n-th number that its Data writes, and that is the key of some Label
pub record KeysLocated (array : ℕ) (e : Element) (count : ℕ) (after : List ℤ) : Type 0 where
  pub is_array_lem : array < length (arrays_of e)
  pub many : count ≡ get_or (each dim0 (arrays_of e)) array 0
  pub as_written : count ≡ length (get_or (each array_keys (arrays_of e)) array [])
  pub each_is : (n : ℕ) → n < count → get_or after n (pos 0) ≡ get_or (get_or (each array_keys (arrays_of e)) array []) n (pos 0)
  pub labelled : (n : ℕ) → n < count → (j : ℕ) × (j < length (known_keys e)) × (get_or after n (pos 0) ≡ get_or (known_keys e) j (pos 0))
