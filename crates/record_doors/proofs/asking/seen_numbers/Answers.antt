use Rattle.std.proofs.Common.{arith}
use Rattle.std.proofs.lemmas.Result.{err_from_is_err_and}
use Rattle.record_doors.proofs.Laws.Numbers.{taken_none, not_whole, type_above, list_spoilt, taken_one, taken_all}
use Rattle.record_doors.proofs.asking.seen_numbers.Goals as goal

pub returns-then-list-ne0 : goal.returns-then-list-ne0
returns-then-list-ne0 c = search not_whole

pub loop-i-init : goal.loop-i-init
loop-i-init c = search taken_none

pub returns-then-list-i-gt1 : goal.returns-then-list-i-gt1
returns-then-list-i-gt1 c = search type_above

pub returns-in_err-state : goal.returns-in_err-state
returns-in_err-state c =
    let p = err_from_is_err_and c.from_residual.result c.from_residual.ensures.1 in
    rw (p.1, p.2) (list_spoilt c.loop-i.invariant _ (omega arith) c.model_in.ensures _ c.in_err-state.ensures)

pub loop-i-preserved : goal.loop-i-preserved
loop-i-preserved c = taken_one c.loop-i.invariant _ (omega arith) c.model_in.ensures _ c.in_ok-state.ensures (omega arith)

pub returns : goal.returns
returns c = search taken_all
