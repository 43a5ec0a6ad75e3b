-- THE KEYS OF A TABLE written into a lent list: on any bytes, and, behind 1 to 9, 24 and 25, what is promised.
use Rattle.std.specs.Prelude.{List, [], ℕ, ℤ}
use Rattle.label_table.specs.Labels.{table_keys_at, Wrote}

-- ---- On any bytes: 17 where there is less room than keys, and the list as it was; else all of them.

abbrev pub WrittenTo : (text : List ℕ) (at : ℕ) (before : List ℤ) (number count : ℕ) (after : List ℤ) → Type 0
WrittenTo text at before number count after = Wrote (table_keys_at text at) before number count after
