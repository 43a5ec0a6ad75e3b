use mathlib.Core.Bool.{false}
use Rattle.nodes.specs.Texts.{left}
use Rattle.table.proofs.Laws.Listing.{Writing}
use Rattle.filling.proofs.listing.fill_vertices.Given as goal

abbrev pub invariant-loop-out : goal.invariant-loop-out
invariant-loop-out l = Writing false l.structure l.text l.start l.initial.place l.initial.out l.i l.place l.out

abbrev pub decreases-loop-out : goal.decreases-loop-out
decreases-loop-out l = left l.text l.i
