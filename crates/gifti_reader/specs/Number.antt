-- CONDITIONS 9, 24, 18, 30 AND 31 of a file behind 2, 3, 4, 6, 29 and 7.
use Rattle.std.specs.Prelude.{◌≡◌, true, false, List, [], ◌∷◌, ℕ}
use Rattle.lists.specs.Refusals.{Refusal, ◌when◌, first}
use Rattle.grammar.specs.Document.{Element}
use Rattle.nodes.specs.Places.{the}
use Rattle.label_table.specs.Labels.{table_keys_at, twice_at}
use Rattle.gifti.specs.Arrays.{known_keys}
use Rattle.gifti.specs.Conditions.{arrays_wrong, label_twice, no_array, length_wrong, key_unknown}
use Rattle.gifti_opening.specs.Passed.{FileHere}

unfoldable pub rows_of_arrays : (array : ℕ) → Element → List Refusal
rows_of_arrays i e =
    9 when arrays_wrong e
    ∷ 24 when label_twice e
    ∷ 18 when no_array i e
    ∷ 30 when length_wrong e
    ∷ 31 when key_unknown e
    ∷ []

-- the same where a key stands twice, and where none does
unfoldable pub number_twice : Element → ℕ
number_twice e = first (9 when arrays_wrong e ∷ 24 when true ∷ [])

unfoldable pub number_once : (array : ℕ) → Element → ℕ
number_once i e = first (9 when arrays_wrong e ∷ 18 when no_array i e ∷ 30 when length_wrong e ∷ 31 when key_unknown e ∷ [])

-- the place of the table of labels
pub record TableAt (text : List ℕ) (e : Element) (t : ℕ) : Type 0 where
  pub keys_are : table_keys_at text t ≡ known_keys e
  pub twice_is : twice_at text t ≡ label_twice e

pub record TableOnce (text : List ℕ) (root table : ℕ) : Type 0 where
  pub file : FileHere text root
  pub table_at : TableAt text (the text root) table
  pub once : twice_at text table ≡ false
