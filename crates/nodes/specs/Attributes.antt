-- The attributes of the element at a position: their names, and where their values begin.
use Rattle.std.specs.Prelude.{◌≡◌, List, [], ◌∷◌, ℕ, zero, suc, ◌+◌, ◌-◌, ◌≤◌, cond, length, drop, Option, Some, None}
use Rattle.grammar.specs.Document.{Attribute, attribute}
use Rattle.grammar.specs.Read.{Read, fail, got, Reader, ◌>>=◌, ◌>>◌, pure, all_of}
use Rattle.grammar.specs.Parser.{name_at, gap_at, equals_at, value_at, attribute_at_lem, ends, closing, same_bytes}
use Rattle.nodes.specs.Places.{pick}

-- ON BYTES: blanks, a name and `=`
unfoldable pub key_bytes_lem : Reader (List ℕ)
key_bytes_lem = do
  gap_at
  n ← name_at
  equals_at
  pure n

-- a name, and where its value begins
pub data Key : Type 0 where
  key : (name : List ℕ) (value : ℕ) → Key

-- the keys in what is left of a tag: any bytes; `n` is the length of the whole text
unfoldable pub keys_then : Read (List ℕ) → (List ℕ → List Key) → List Key
keys_then fail more = []
keys_then (got x r) more = more r

unfoldable pub keys_by_lem : ℕ → Read (List ℕ) → (List ℕ → List Key) → List Key
keys_by_lem n fail more = []
keys_by_lem n (got w r) more = key w (n - length r) ∷ keys_then (value_at r) more

unfoldable pub keys_within : ℕ → ℕ → List ℕ → List Key
keys_within zero n s = []
keys_within (suc m) n s = pick (ends closing s) [] (keys_by_lem n (key_bytes_lem s) (keys_within m n))

unfoldable pub keys_at_lem : ℕ → List ℕ → List Key
keys_at_lem n s = keys_within (suc (length s)) n s

-- the keys of the element at a position
unfoldable pub keys_in : ℕ → Read (List ℕ) → List Key
keys_in n fail = []
keys_in n (got w r) = keys_at_lem n r

unfoldable pub keys : List ℕ → ℕ → List Key
keys text at = keys_in (length text) (name_at (drop (at + 1) text))

-- where the value of the first one with the name begins
unfoldable pub place_in : List ℕ → List Key → Option ℕ
place_in w [] = None
place_in w (key n v ∷ l) = pick (same_bytes n w) (Some v) (place_in w l)

unfoldable pub place : List ℕ → ℕ → List ℕ → Option ℕ
place text at w = place_in w (keys text at)

-- A VALUE stands at a position
pub record ValueAt (text : List ℕ) (v : ℕ) (x : List ℕ) : Type 0 where
  pub inside : v ≤ length text
  pub rest : List ℕ
  pub reads : value_at (drop v text) ≡ got x rest

unfoldable pub list_at : Reader (List Attribute)
list_at = all_of (ends closing) attribute_at_lem

-- the first attribute of a list that was read
pub record First (s : List ℕ) (l : List Attribute) : Type 0 where
  pub name : List ℕ
  pub behind_key : List ℕ
  pub key_reads : key_bytes_lem s ≡ got name behind_key
  pub says : List ℕ
  pub behind : List ℕ
  pub reads : value_at behind_key ≡ got says behind
  pub more : List Attribute
  pub last : List ℕ
  pub lists : list_at behind ≡ got more last
  pub same_list : l ≡ attribute name says ∷ more

-- one by its name: the value of the first attribute with the name
unfoldable pub lookup : List ℕ → List Attribute → Option (List ℕ)
lookup w [] = None
lookup w (attribute n v ∷ l) = cond (same_bytes n w) (Some v) (lookup w l)
