-- THE LINES OF THE COMPARER: what is said of each index, and where the first of two sheets end to end ends. Assumes nothing.
use Rattle.std.specs.Prelude.{cond, List, ℕ, ◌+◌, ◌-◌, ◌*◌, ltb, length, get_or}
use Rattle.records.specs.Sheet.{count_of, width_of}
use Rattle.comparison.specs.Compare.{has_record, same_at}
use Rattle.compare.specs.declared.changes.Change.{Change}
use Rattle.compare.specs.declared.changes.Change.TheVariants.{Same, Moved, First, Second}

-- an index of the first: nothing if same, else moved or first
unfoldable pub of_first : List ℕ → List ℕ → ℕ → Change
of_first a b i = cond (same_at a b i) Same (cond (has_record b (get_or a i 0)) Moved First)

-- an index of the second: nothing if the first has its location
unfoldable pub of_second : List ℕ → List ℕ → ℕ → Change
of_second a b j = cond (ltb j (length b)) (cond (has_record a (get_or b j 0)) Same Second) Same

-- the indices of the first, and behind them those of the second
unfoldable pub change_at : List ℕ → List ℕ → ℕ → Change
change_at a b i = cond (ltb i (length a)) (of_first a b i) (of_second a b (i - length a))

-- where the first sheet ends by its own head, or all bytes where it has none or that is past them
unfoldable pub end_said : List ℕ → ℕ
end_said s = 4 + (width_of s).bytes * count_of s

unfoldable pub first_end : List ℕ → ℕ
first_end s = cond (ltb (length s) 4) (length s) (cond (ltb (length s) (end_said s)) (length s) (end_said s))
