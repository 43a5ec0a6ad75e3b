use Rattle.nodes.proofs.Laws.Names.{naming, name_none, name_other}
use Rattle.inside.proofs.names.name_is.Goals.{then-text-at-via-then-text-at, then-text-at-via-else-text-at+then-text-at-ne60}
use Rattle.inside.proofs.names.name_is.Goals as goal

pub returns-then-text-at : goal.returns-then-text-at
returns-then-text-at c =
    elim c.then-text-at.branch [
      | then-text-at-via-then-text-at w ↦ name_none _ _ _ w.if-text-at.true
      | then-text-at-via-else-text-at+then-text-at-ne60 w ↦ name_other _ _ _ w.if-text-at.false w.if-text-at-ne60.true
    ]

pub slice_bounds-equal-count : goal.slice_bounds-equal-count
slice_bounds-equal-count c = search naming

pub slice_bounds-equal-start : goal.slice_bounds-equal-start
slice_bounds-equal-start c = search naming

pub slice_bounds-equal-end : goal.slice_bounds-equal-end
slice_bounds-equal-end c = search naming

pub returns-in-Some : goal.returns-in-Some
returns-in-Some c = search naming

pub returns-in-None : goal.returns-in-None
returns-in-None c = search naming
