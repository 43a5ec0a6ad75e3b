-- TWO SHEETS SIDE BY SIDE, as the walk takes them. Assumes nothing.
use Rattle.std.specs.Prelude.{◌≡◌, Bool, true, false, List, ℕ, ◌+◌, ◌≤◌, ◌<◌, eqb, length, get_or, take}
use Rattle.lists.specs.Lists.{count, two_of}
use Rattle.records.specs.Sheet.{count_of}
use Rattle.comparison.specs.Compare.{records_of, well_formed, has_record}
use Rattle.comparison.specs.Matched.{matched}
use Rattle.comparison.specs.Tagged.{place_in}
use Rattle.matching.specs.declared.walking.Step.{Step}
use Rattle.matching.specs.declared.walking.Step.TheVariants.{Pair, First, Second}

-- a sheet in good form that has a record of the index
pub record HasIndex (s : List ℕ) (i : ℕ) : Type 0 where
  pub formed : well_formed s ≡ true
  pub inside : i < count_of s

-- a sheet in good form, its count, and a step along it
pub record StepAlong (s : List ℕ) (n j : ℕ) : Type 0 where
  pub formed : well_formed s ≡ true
  pub counts : n ≡ count_of s
  pub inside : j < n

-- two sheets in good form, and their counts
pub record Beside (s t : List ℕ) (n m : ℕ) : Type 0 where
  pub one : well_formed s ≡ true
  pub two : well_formed t ≡ true
  pub ns : n ≡ count_of s
  pub ms : m ≡ count_of t

-- both, and how far the walk came, not at the end of both
pub record Underway (s t : List ℕ) (n m i j : ℕ) : Type 0 where
  pub beside : Beside s t n m
  pub i_in_lem : i ≤ n
  pub j_in_lem : j ≤ m
  pub more : i + j < n + m

-- what a step may do: take a pair away that is equal, or set aside a record that is still ahead
unfoldable pub Chosen : List ℕ → Bool → List ℕ → ℕ → ℕ → Step → Type 0
Chosen a turned b i j Pair = (i < length a) × ((j < length b) × (get_or a i 0 ≡ get_or b (place_in turned (length b) j) 0))
Chosen a turned b i j First = i < length a
Chosen a turned b i j Second = j < length b

-- both, with room for all records; the first has none twice
pub record Walkable (s t : List ℕ) (n m room : ℕ) : Type 0 where
  pub beside : Beside s t n m
  pub fits : n + m ≤ room
  pub single : two_of eqb (records_of s) ≡ false

-- how many pairs were taken away, and how many numbers set aside: what they share is the pairs and those that match
pub record SetAside (s t after : List ℕ) (pairs aside : ℕ) : Type 0 where
  pub inside : aside ≤ length after
  pub sum : pairs + matched (take aside after) ≡ count (has_record (records_of t)) (records_of s)
