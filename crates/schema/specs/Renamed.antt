-- Rows over other names of kinds: each kind by the name that it has there.
use Rattle.lists.specs.Lists.{each}
use Rattle.schema.specs.Schema.{Case, ◌⇒◌, Which, always, chosen, chosen_else, ChildRow, child, Row, branch, leaf}

module _ {J K : Type 0} (f : J → K) where
  unfoldable pub case_named : Case J → Case K
  case_named (s ⇒ k) = s ⇒ f k

  unfoldable pub which_named : Which J → Which K
  which_named (always k) = always (f k)
  which_named (chosen a l) = chosen a (each case_named l)
  which_named (chosen_else a l k) = chosen_else a (each case_named l) (f k)

  unfoldable pub child_named : ChildRow J → ChildRow K
  child_named (child s t w) = child s t (which_named w)

  unfoldable pub row_named : Row J → Row K
  row_named (branch a o r) = branch a o (each child_named r)
  row_named (leaf a t) = leaf a t
