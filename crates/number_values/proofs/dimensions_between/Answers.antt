use Rattle.numbers.proofs.Laws.Lists.{listing, list_past, list_room, list_start_lem}
use native.Mathlib.Omega.{arith}
use Rattle.number_values.proofs.dimensions_between.Goals as goal

pub loop-d-init : goal.loop-d-init
loop-d-init c =
    let got = c.in_ok-quote.ensures.lookup in
    rw (got.3.1 0) (list_start_lem c.args.text.now c.args.at c.args.lo c.args.hi got.3.0)

pub loop-d-preserved : goal.loop-d-preserved
loop-d-preserved c = search listing

pub returns-in-Last : goal.returns-in-Last
returns-in-Last c = search listing

pub returns-in-No : goal.returns-in-No
returns-in-No c = search listing

pub overflow_add-i : goal.overflow_add-i
overflow_add-i c = search listing

pub dimension_at-requires : goal.dimension_at-requires
dimension_at-requires c = search listing

pub enum_known-d : goal.enum_known-d
enum_known-d c = search listing

pub overflow_add-n : goal.overflow_add-n
overflow_add-n c = omega (
  arith,
  list_room c.loop-d.invariant
      c.dimension_at.ensures _ c.is_within.ensures,
)

pub loop-d-smaller : goal.loop-d-smaller
loop-d-smaller c = search listing

pub enum_known-d-in-Last-1 : goal.enum_known-d-in-Last-1
enum_known-d-in-Last-1 c = search listing

pub is_within-requires : goal.is_within-requires
is_within-requires c = search listing

pub overflow_add-result : goal.overflow_add-result
overflow_add-result c = omega (
  arith,
  list_room c.loop-d.invariant
      c.dimension_at.ensures _ c.is_within-in-Last.ensures,
)

pub enum_told-1 : goal.enum_told-1
enum_told-1 c = search listing

pub returns-in_err-quote : goal.returns-in_err-quote
returns-in_err-quote c =
    rw c.from_residual.ensures (list_past c.args.text.now c.args.at c.args.lo c.args.hi c.in_err-quote.ensures.lookup.3)
