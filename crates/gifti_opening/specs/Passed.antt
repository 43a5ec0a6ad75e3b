-- WHAT IS KNOWN OF A FILE behind 2, 3, 4, 6, 29 and 7: its root stands at its place, and its table and its arrays are good.
use Rattle.std.specs.Prelude.{◌≡◌, List, [], ◌∷◌, true, ℕ, ◌≤◌, length, Some}
use Rattle.lists.specs.Refusals.{first}
use Rattle.grammar.specs.Document.{Element}
use Rattle.grammar.specs.Look.{attr}
use Rattle.grammar.specs.Parser.{parse}
use Rattle.numbers.specs.Numbers.{whole}
use Rattle.nodes.specs.Places.{Stands, the}
use Rattle.cifti.specs.LabelTable.{keys_right}
use Rattle.gifti.specs.Arrays.{arrays_of, label_tables}
use Rattle.gifti.specs.Conditions.{conditions_of_file}
use Rattle.gifti.specs.Held.{GoodArrays}

pub record ArraysHere (text : List ℕ) (root : ℕ) : Type 0 where
  pub stands : Stands text root
  pub small : length text ≤ 16777216
  pub good : GoodArrays (arrays_of (the text root))

pub record FileHere (text : List ℕ) (root : ℕ) : Type 0 where
  pub arrays : ArraysHere text root
  pub parsed : parse text ≡ Some (the text root)
  pub none_before : first (conditions_of_file (length text) (parse text)) ≡ 0
  pub arrays_said_lem : whole 0 9999999 (attr "NumberOfDataArrays" (the text root)) ≡ true
  pub table : Element
  pub one_table : label_tables (the text root) ≡ table ∷ []
  pub keys_right_lem : keys_right table ≡ true
