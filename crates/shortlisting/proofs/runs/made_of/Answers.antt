use Rattle.std.proofs.lemmas.Result.{err_from_is_err_and}
use Rattle.shortlist.proofs.Laws.Made.{stops_count, stops_refused, stops_short, made_whole}
use Rattle.shortlisting.proofs.runs.made_of.Goals as goal

pub returns-then-records-lt1 : goal.returns-then-records-lt1
returns-then-records-lt1 c = stops_count _ _ c.then-records-lt1.either

pub returns-in_err-made : goal.returns-in_err-made
returns-in_err-made c =
    let p = err_from_is_err_and c.from_residual.result c.from_residual.ensures.1 in
    rw (p.1, p.2) (stops_refused _ _ c.if-records-lt1.false c.if-records-gt1048576.false _ c.in_err-made.ensures)

pub returns-then-room-made : goal.returns-then-room-made
returns-then-room-made c = stops_short _ _ c.if-records-lt1.false c.if-records-gt1048576.false _ c.in_ok-made.ensures c.if-room-made.true

pub returns : goal.returns
returns c = made_whole _ _ c.if-records-lt1.false c.if-records-gt1048576.false _ c.in_ok-made.ensures c.if-room-made.false
