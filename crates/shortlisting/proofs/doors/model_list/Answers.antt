use Rattle.std.proofs.Common.{ap, ◌++◌, drop}
use Rattle.std.proofs.lemmas.Result.{err_from_is_err_and}
use Rattle.shortlist.specs.declared.answer.Model.{Model}
use Rattle.std.specs.Prelude.{List}
use Rattle.shortlist.proofs.Laws.Made.{lists_refused, lists_made}
use Rattle.shortlisting.proofs.doors.model_list.Goals as goal

pub returns-in_err-made : goal.returns-in_err-made
returns-in_err-made c =
    let p = err_from_is_err_and c.from_residual.result c.from_residual.ensures.1 in
    rw (p.1, p.2) (lists_refused _ _ _ c.in_err-made.ensures)

pub returns : goal.returns
returns c =
    let made = c.in_ok-made.made in
    lists_made _ _ _ _ c.in_ok-made.ensures
    (ap (λ (l : List Model). l ++ drop made.count c.args.models.now) c.copy_from_slice.ensures.after)
