use Rattle.values.proofs.Laws.InTurn.{seeking, sought_met}
use Rattle.values.proofs.attributes.seek.Goals as goal

pub slice_bounds-equal-count : goal.slice_bounds-equal-count
slice_bounds-equal-count c = search seeking

pub slice_bounds-equal-start : goal.slice_bounds-equal-start
slice_bounds-equal-start c = search seeking

pub slice_bounds-equal-end : goal.slice_bounds-equal-end
slice_bounds-equal-end c = search seeking

pub returns : goal.returns
returns c = search seeking

pub returns-in-Some-value_end : goal.returns-in-Some-value_end
returns-in-Some-value_end c =
    sought_met _ _ c.key_at.ensures c.in-Some.is c.requires _ c.equal.ensures c.if-equal.true c.value_end.ensures c.in-Some-value_end.is
