use Rattle.std.proofs.Common.{ap, ◌∙◌, sym}
use Rattle.std.proofs.lemmas.Result.{err_from_is_err_and}
use Rattle.shortlist.specs.Search.{next_of, folded}
use Rattle.shortlist.specs.declared.state.Search.{Search}
use Rattle.shortlist.proofs.Laws.Answers.{tells_fault, tells_seen}
use Rattle.shortlisting.proofs.doors.structure_at.Goals as goal

pub returns-in_err-found : goal.returns-in_err-found
returns-in_err-found c =
    let p = err_from_is_err_and c.from_residual.result c.from_residual.ensures.1 in
    let e = ap (λ (s : Search). folded next_of s c.args.models.now) c.begin.ensures in
    rw (p.1, p.2) (tells_fault _ _ 0 0 _ (sym (c.in_err-found.ensures ∙ e)))

pub returns : goal.returns
returns c =
    let e = ap (λ (s : Search). folded next_of s c.args.models.now) c.begin.ensures in
    tells_seen _ _ 0 0 _ (sym (c.in_ok-found.ensures ∙ e)) _ c.told.ensures
