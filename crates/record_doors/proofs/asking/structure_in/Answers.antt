use Rattle.std.proofs.lemmas.Result.{err_from_is_err_and}
use Rattle.record_doors.proofs.Laws.Numbers.{tells_fault_numbers, tells_seen_numbers}
use Rattle.record_doors.proofs.asking.structure_in.Goals as goal

pub returns-in_err-found : goal.returns-in_err-found
returns-in_err-found c =
    let p = err_from_is_err_and c.from_residual.result c.from_residual.ensures.1 in
    rw (p.1, p.2) (tells_fault_numbers _ _ _ _ c.begin.ensures c.in_err-found.ensures)

pub returns : goal.returns
returns c = tells_seen_numbers _ _ _ _ _ c.begin.ensures c.in_ok-found.ensures c.told.ensures
