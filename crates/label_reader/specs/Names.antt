-- THE NAME OF A KEY: where it stands in the text. On any bytes, and, behind 1 to 9, 24 and 25, what is promised.
use Rattle.std.specs.Prelude.{◌≡◌, List, [], ℕ, ℤ, length, Some, None}
use Rattle.nodes.specs.Inside.{between_tags}
use Rattle.label_table.specs.Labels.{label_with}
use Rattle.cifti.specs.Labels.{LabelNumber, LabelPart}
use Rattle.inside.specs.One.{tag_end}
use Rattle.map_names.specs.Answered.{Is}
use Rattle.map_names.specs.Placed.{PlacedBy}
use Rattle.map_names.specs.declared.NamePlace.{NamePlace}
use Rattle.label_reader.specs.Way.{label_way}

abbrev pub LabelPlaced : (text lengths : List ℕ) (dimension index : ℕ) (key : ℤ) (r : NamePlace) → Type 0
LabelPlaced text lengths dimension index key r =
    PlacedBy (LabelNumber text lengths dimension index key) (LabelPart text lengths dimension index key)
    (label_way dimension index key) text r

-- ---- On any bytes, in the table at a place: 19 where no Label has the key; else where the first that has it stands.

pub record InTable (text : List ℕ) (at : ℕ) (key : ℤ) (r : NamePlace) : Type 0 where
  pub missing : label_with key text at ≡ None → Is r 19 0 0
  pub found : (k : ℕ) → label_with key text at ≡ Some k → Is r 0 (tag_end text k) (length (between_tags text k))
