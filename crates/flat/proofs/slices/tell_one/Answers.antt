use Rattle.std.proofs.Common.{◌∙◌, arith}
use Rattle.records.specs.Fill.{wrote_one}
use Rattle.flat.proofs.Laws.Flat.{told_all, told_short}
use Rattle.flat.proofs.slices.tell_one.Goals as goal

pub returns-then-slice-gt0 : goal.returns-then-slice-gt0
returns-then-slice-gt0 c = let h = c.if-slice-gt0.true in wrote_one 0 _ c.args.slice.now (omega arith)
    ∙ told_all _ c.args.slice.now (omega arith)

pub returns-else-slice-gt0 : goal.returns-else-slice-gt0
returns-else-slice-gt0 c = told_short _ c.args.slice.now (omega arith)
