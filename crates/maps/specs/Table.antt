-- THE TABLE OF A MAP: all its models' records, each written at its offset, one model after the other, are its stretch.
use Rattle.std.specs.Prelude.{List, [], ℕ}
use Rattle.lists.specs.Lists.{each}
use Rattle.records.specs.Record.{record_of}
use Rattle.cifti.specs.Maps.{Model, locations}

-- the records of a model, in the order of its list
unfoldable pub model_records : Model → List ℕ
model_records m = each record_of (locations m)
