use borrow.Author.Rules.{rules}
use Rattle.nodes.proofs.Laws.Attributes.{placing, placing_end, placing_none, placing_hit, placing_stuck, placing_on}
use Rattle.inside.proofs.attributes.place_from.Goals as goal

pub loop-at-init : goal.loop-at-init
loop-at-init c = search placing

pub returns-in_err-from : goal.returns-in_err-from
returns-in_err-from c = rw c.from_residual.ensures (placing_none _ _ _ _ c.loop-at.invariant c.tag_ends.ensures (search rules) c.key_at.ensures c.in_err-from.was)

pub slice_bounds-equal-count : goal.slice_bounds-equal-count
slice_bounds-equal-count c = search placing

pub slice_bounds-equal-start : goal.slice_bounds-equal-start
slice_bounds-equal-start c = search placing

pub slice_bounds-equal-end : goal.slice_bounds-equal-end
slice_bounds-equal-end c = search placing

pub returns-then-equal : goal.returns-then-equal
returns-then-equal c = placing_hit _ _ _ _ c.loop-at.invariant c.tag_ends.ensures (search rules) c.key_at.ensures c.in_ok-from.was c.equal.ensures c.if-equal.true

pub returns-in_err-i : goal.returns-in_err-i
returns-in_err-i c = rw c.from_residual-in_err-i.ensures (placing_stuck _ _ _ _ c.loop-at.invariant c.tag_ends.ensures (search rules) c.key_at.ensures c.in_ok-from.was c.equal.ensures c.if-equal.false c.value_end.ensures c.in_err-i.was)

pub loop-at-smaller : goal.loop-at-smaller
loop-at-smaller c = search placing

pub loop-at-preserved : goal.loop-at-preserved
loop-at-preserved c = placing_on _ _ _ _ c.loop-at.invariant c.tag_ends.ensures (search rules) c.key_at.ensures c.in_ok-from.was c.equal.ensures c.if-equal.false c.value_end.ensures c.in_ok-i.was

pub returns : goal.returns
returns c = placing_end _ _ _ _ c.loop-at.invariant c.tag_ends.ensures (search rules)
