-- DEMAND 2 OF LABELS: what is told is what the Labels of the table write. The table is what the way leads to: the LabelTable of the
-- NamedMap of the index, in the map that lists the dimension.
use Rattle.std.specs.Prelude.{◌≡◌, List, [], ℕ, ◌<◌, ℤ, pos, length, get_or, Some}
use Rattle.lists.specs.Lists.{each}
use Rattle.grammar.specs.Document.{Element}
use Rattle.grammar.specs.Look.{within_of}
use Rattle.cifti.specs.LabelTable.{labels_of, label_key, labels_with}
use Rattle.inside.specs.Way.{reached}
use Rattle.label_reader.specs.Way.{table_way}

-- as many keys as the table has Labels, and at place n the key that its n-th Label writes
pub record KeysTold (dimension index : ℕ) (e : Element) (count : ℕ) (after : List ℤ) : Type 0 where
  pub table : Element
  pub reached_so : reached (table_way dimension index) e ≡ Some table
  pub many : count ≡ length (labels_of table)
  pub each_is : (n : ℕ) → n < count → get_or after n (pos 0) ≡ get_or (each label_key (labels_of table)) n (pos 0)

-- the part is what stands between the tags of the only Label that has the key
pub record LabelTold (dimension index : ℕ) (key : ℤ) (e : Element) (part : List ℕ) : Type 0 where
  pub table : Element
  pub reached_so : reached (table_way dimension index) e ≡ Some table
  pub only : length (labels_with key table) ≡ 1
  pub part_is : part ≡ get_or (each within_of (labels_with key table)) 0 []
