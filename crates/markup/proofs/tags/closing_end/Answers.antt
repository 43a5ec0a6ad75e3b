use Rattle.steps.proofs.Laws.Tags.{name_span, closing, closing_whole}
use native.Mathlib.Omega.{arith}
use Rattle.markup.proofs.tags.closing_end.Goals as goal

pub returns-then-text-from : goal.returns-then-text-from
returns-then-text-from c = search closing

pub slice_bounds-close_end-count : goal.slice_bounds-close_end-count
slice_bounds-close_end-count c = omega (
  arith,
  name_span c.args.text.now
      c.args.from 0 c.name_end.ensures
      c.in_ok-end.was c.if-text-from.false,
)

pub slice_bounds-close_end-start : goal.slice_bounds-close_end-start
slice_bounds-close_end-start c = omega (
  arith,
  name_span c.args.text.now
      c.args.from 0 c.name_end.ensures
      c.in_ok-end.was c.if-text-from.false,
)

pub slice_bounds-close_end-end : goal.slice_bounds-close_end-end
slice_bounds-close_end-end c = omega (
  arith,
  name_span c.args.text.now
      c.args.from 0 c.name_end.ensures
      c.in_ok-end.was c.if-text-from.false,
)

pub returns : goal.returns
returns c =
    closing_whole c.args.text.now c.args.from c.args.at c.name_end.ensures c.in_ok-end.was
    c.close_end.ensures

pub returns-in_err-end : goal.returns-in_err-end
returns-in_err-end c = rw c.from_residual.ensures (search closing)
