use Rattle.std.proofs.lemmas.Result.{err_from_is_err_and}
use Rattle.record_doors.proofs.Laws.Numbers.{lists_numbers_fault, lists_numbers}
use Rattle.record_doors.proofs.making.list_numbers.Goals as goal

pub returns-in_err-made : goal.returns-in_err-made
returns-in_err-made c =
    let p = err_from_is_err_and c.from_residual.result c.from_residual.ensures.1 in
    rw (p.1, p.2) (lists_numbers_fault _ _ _ c.in_err-made.ensures)

pub returns : goal.returns
returns c =
    lists_numbers _ _ _ _ c.in_ok-made.ensures
    c.put_models.ensures
