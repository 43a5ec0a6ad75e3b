-- THE DIMENSIONS THAT LABELS MAPS LIST: the loop over the ten digits of a map, and the loop over the maps.
use Rattle.std.specs.Prelude.{List, [], cond, ℕ}
use Rattle.cifti.specs.Maps.{Map, is_labels}

-- ---- Of a map if it is of labels.

unfoldable pub labelled : Map → List ℕ
labelled m = cond (is_labels m.kind) m.dimensions []
