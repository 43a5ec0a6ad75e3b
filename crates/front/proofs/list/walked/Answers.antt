use Rattle.std.proofs.Common.{rules}
use Rattle.nifti.proofs.Laws.Walk.{walk_ends, walk_fails, walk_past, walk_other, walk_takes}
use Rattle.front.proofs.list.walked.Goals as goal
use Rattle.front.proofs.list.walked.Goals.{then-is_none+then-four-eq32, else-is_none, else-is_none-via-then-is_none+else-four-eq32, else-is_none-via-else-is_none}

pub returns-in_err-size : goal.returns-in_err-size
returns-in_err-size c = search (walk_fails, rules)

pub loop-place-preserved : goal.loop-place-preserved
loop-place-preserved c =
    let w = c.loop-place.invariant in
    let e = c.in_ok-size.ensures.0 in
    let g = c.in_ok-size.ensures.1 in
    elim c.if-is_none.branch [
      | then-is_none+then-four-eq32 x ↦ rw x.text-is (walk_takes w e g x.four.ensures x.if-is_none.ensures x.if-four-eq32.true)
      | else-is_none x ↦ rw x.text-is (elim x.else-is_none.branch [
        | else-is_none-via-then-is_none+else-four-eq32 y ↦ walk_other w e g y.four.ensures y.if-is_none.ensures y.if-four-eq32.false
        | else-is_none-via-else-is_none y ↦ walk_past w e g y.if-is_none.ensures
      ])
    ]

pub returns : goal.returns
returns c = search (walk_ends, rules)
