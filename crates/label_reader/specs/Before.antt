-- CONDITIONS 1 TO 9, 24 AND 25 in their order.
use Rattle.std.specs.Prelude.{List, [], ◌++◌, ℕ, length}
use Rattle.lists.specs.Refusals.{Refusal, first}
use Rattle.grammar.specs.Parser.{parse}
use Rattle.cifti.specs.Conditions.{conditions_of_header, conditions_of_labels}

abbrev pub rows_before : (text lengths : List ℕ) → List Refusal
rows_before text lengths = conditions_of_header lengths (length text) (parse text) ++ conditions_of_labels (parse text)

unfoldable pub number_before : (text lengths : List ℕ) → ℕ
number_before text lengths = first (rows_before text lengths)
