use Rattle.std.proofs.Common.{rules, sym}
use Rattle.std.proofs.lemmas.Result.{err_from_is_err_and}
use Rattle.nifti.proofs.Laws.Front.{front_refused, lengths_refused, text_refused, body_inside, accepted, bytes_known}
use Rattle.front.proofs.whole.found.Goals as goal

pub returns-in_err-header : goal.returns-in_err-header
returns-in_err-header c = search (front_refused, bytes_known, rules)

pub returns-in_err-lengths : goal.returns-in_err-lengths
returns-in_err-lengths c = search (lengths_refused, bytes_known, rules)

pub returns-in_err-body : goal.returns-in_err-body
returns-in_err-body c =
    let p = err_from_is_err_and c.from_residual-in_err-body.result c.from_residual-in_err-body.ensures.1 in
    let f = c.in_ok-header.ensures in
    rw (p.1, p.2, sym f)
    (text_refused _ (rw f (bytes_known _ c.type_inv.file)) c.in_ok-header.header.standing (sym c.in_ok-lengths.ensures)
    (sym c.in_err-body.ensures))

pub overflow_add-body : goal.overflow_add-body
overflow_add-body c = search (body_inside, bytes_known, rules)

pub slice_bounds-without_zeros-end : goal.slice_bounds-without_zeros-end
slice_bounds-without_zeros-end c = search (body_inside, bytes_known, rules)

pub returns : goal.returns
returns c = search (accepted, bytes_known, rules)
