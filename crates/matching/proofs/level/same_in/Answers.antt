use Rattle.std.proofs.Common.{◌∙◌, arith}
use Rattle.matching.proofs.Laws.Side.{level_start, level_few, level_yes, level_no, level_end}
use Rattle.matching.proofs.level.same_in.Goals as goal
use Rattle.matching.proofs.level.same_in.Goals.{then-record, else-record}

pub loop-i-init : goal.loop-i-init
loop-i-init c = level_start c.args.first c.args.second

pub overflow_add-same : goal.overflow_add-same
overflow_add-same c = let few = level_few c.args.first c.args.second c.loop-i.invariant in omega arith

pub loop-i-preserved : goal.loop-i-preserved
loop-i-preserved c =
    let s = c.args.first in
    let t = c.args.second in
    let x = c.record.ensures.is in
    let y = c.record-in-loop-i.ensures.is in
    elim c.if-record.branch [
      | then-record w ↦ w.same-is ∙ level_yes s t (omega arith) x y c.loop-i.invariant w.if-record.true
      | else-record w ↦ w.same-is ∙ level_no s t (omega arith) x y c.loop-i.invariant w.if-record.false
    ]

pub returns : goal.returns
returns c = level_end c.args.first c.args.second {n = c.loop-i.i} (omega arith) c.loop-i.invariant
