-- THE BYTES OF THE COMPARER: for each index of the first sheet, in order, and then for each of the second, a line where its location
-- changed: a word, and the lister's record line with the index in its own sheet. A refusal stands alone. Assumes nothing.
use Rattle.std.specs.Prelude.{List, [], ◌++◌, cond, ℕ, zero, suc, ◌+◌, ◌-◌, ltb, length, get_or, take, drop}
use Rattle.lists.specs.Lists.{tabulated, each_in}
use Rattle.grammar.specs.Bytes.{ascii}
use Rattle.records.specs.Sheet.{count_of}
use Rattle.comparison.specs.Compare.{records_of, compare_refusal}
use Rattle.compare.specs.Change.{change_at, first_end}
use Rattle.compare.specs.declared.changes.Change.{Change}
use Rattle.compare.specs.declared.changes.Change.TheVariants.{Same, Moved, First, Second}
use Rattle.card.specs.Card.{record_line}
use Rattle.card.specs.declared.line.Line.TheVariants.{Refused}
use Rattle.card.specs.Written.{line_bytes}

-- what is printed of an index and the record there
unfoldable pub change_bytes : Change → (index number : ℕ) → List ℕ
change_bytes Same i r = []
change_bytes Moved i r = ascii "moved " ++ line_bytes (record_line i r)
change_bytes First i r = ascii "first " ++ line_bytes (record_line i r)
change_bytes Second i r = ascii "second " ++ line_bytes (record_line i r)

-- The n-th line of two lists of records: the indices of the first, and behind them those of the second, which are counted from 0 again.
-- `first_then_second` says so of the whole.
unfoldable pub line_at : (a b : List ℕ) → ℕ → List ℕ
line_at a b n =
    cond (ltb n (length a))
    (change_bytes (change_at a b n) n (get_or a n 0))
    (change_bytes (change_at a b n) (n - length a) (get_or b (n - length a) 0))

unfoldable pub output_bytes : (a b : List ℕ) → List ℕ
output_bytes a b = each_in (line_at a b) (tabulated (length a + length b) (λ n. n))

-- a refusal, or the lines
unfoldable pub refusal_bytes : (number : ℕ) → List ℕ
refusal_bytes n = line_bytes (Refused n)

unfoldable pub answer_bytes : (number : ℕ) → (a b : List ℕ) → List ℕ
answer_bytes zero a b = output_bytes a b
answer_bytes (suc n) a b = refusal_bytes (suc n)

-- of two sheets, with a work space that is large enough
unfoldable pub sheets_bytes : (s t : List ℕ) → List ℕ
sheets_bytes s t = answer_bytes (compare_refusal s t (count_of s + count_of t)) (records_of s) (records_of t)

-- of all that stands on standard input: both sheets end to end
unfoldable pub program_bytes : (input : List ℕ) → List ℕ
program_bytes s = cond (ltb 32768 (length s)) (refusal_bytes 15) (sheets_bytes (take (first_end s) s) (drop (first_end s) s))

-- opens every definition above
unfoldable pub output_words : Unit {0}
unfolding change_bytes line_at output_bytes refusal_bytes answer_bytes sheets_bytes program_bytes
output_words = tt
