-- KEYS THAT STAND IN A TABLE OF LABELS, by their codes: how many of a list do, by turns; what a search tells.
use Rattle.std.specs.Prelude.{◌≡◌, true, false, List, ◌++◌, ℕ, ◌≤◌, ◌<◌, ℤ, length, get_or, take, Option, Some}
use Rattle.lists.specs.Lists.{all, count, each}
use Rattle.numbers.specs.Numbers.{in_keys}
use Rattle.lists.specs.Reordered.{Reordered}
use Rattle.lists.specs.Reordered.{member}
use Rattle.label_table.specs.Walks.{to_come}
use Rattle.label_table.specs.Codes.{code_of}
use Rattle.known_keys.specs.Order.{in_order}

-- how many numbers of the list stand in the table
unfoldable pub known_in : (table : List ℕ) → List ℕ → ℕ
known_in table l = count (λ c. member c table) l

-- the codes of keys
unfoldable pub codes_of : List ℤ → List ℕ
codes_of l = each code_of l

-- so many keys of a row stand in the table; all are in the range of keys
pub record KnownAmong (keys : List ℤ) (table : List ℕ) (known : ℕ) : Type 0 where
  pub found : known ≡ known_in table (codes_of keys)
  pub in_range_lem : all in_keys keys ≡ true

-- ---- A search.

-- a place; the number stands there if it stands anywhere
pub record Nearest (keys : List ℕ) (code at : ℕ) : Type 0 where
  pub inside : at < length keys
  pub there : member code keys ≡ true → get_or keys at 0 ≡ code

-- a place of the number, or one past the end where it stands nowhere
pub record Placed (keys : List ℕ) (code at : ℕ) : Type 0 where
  pub found : at < length keys → get_or keys at 0 ≡ code
  pub missed : length keys ≤ at → member code keys ≡ false

-- ---- A turn: the codes from a Label on, as many as there is room for, and the Label behind.

-- the first n places hold them
pub record KeysGathered (text : List ℕ) (from : Option ℕ) (work : List ℕ) (n : ℕ) (next : Option ℕ) : Type 0 where
  pub inside : n ≤ length work
  pub parts : take n work ++ to_come text next ≡ to_come text from
  pub moves : {k : ℕ} → from ≡ Some k → 0 < length work → 0 < n

-- the first n places hold them in their order
pub record Taken (text : List ℕ) (from : Option ℕ) (work : List ℕ) (n : ℕ) (next : Option ℕ) : Type 0 where
  pub codes : List ℕ
  pub inside : n ≤ length work
  pub as_many : length codes ≡ n
  pub parts : codes ++ to_come text next ≡ to_come text from
  pub moves : {k : ℕ} → from ≡ Some k → 0 < length work → 0 < n
  pub ordered : in_order (take n work) ≡ true
  pub reordered : Reordered codes (take n work)
  pub same : (c : ℕ) → member c (take n work) ≡ member c codes
