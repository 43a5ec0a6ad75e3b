use Rattle.nodes.specs.Texts.{left}
use Rattle.marked_lists.proofs.Laws.Listing.{VerticesRead}
use Rattle.marked_lists.proofs.listing.marked_vertices.Given as goal

abbrev pub invariant-loop-n : goal.invariant-loop-n
invariant-loop-n l =
    VerticesRead l.text l.start l.surface l.first l.initial.work l.n l.out l.apart l.i l.work

abbrev pub decreases-loop-n : goal.decreases-loop-n
decreases-loop-n l = left l.text l.i
