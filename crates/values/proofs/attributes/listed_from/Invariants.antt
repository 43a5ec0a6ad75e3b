use Rattle.schema.proofs.Laws.Keys.{Listing}
use Prim.Native.Nat.{◌-◌}
use lib.ListN.{length}
use Rattle.lists.specs.Lists.{count_up}
use Rattle.schema.specs.Table.{attribute_at}
use Rattle.values.proofs.attributes.listed_from.Given as goal

abbrev pub invariant-loop-key : goal.invariant-loop-key
invariant-loop-key l = Listing (count_up (attribute_at l.table l.letters) l.from (l.to - l.from)) l.text l.at l.i

abbrev pub decreases-loop-key : goal.decreases-loop-key
decreases-loop-key l = length l.text - l.i
