use Rattle.records.proofs.Laws.Computed.{count_three}
use native.Mathlib.Omega.{arith}
use Rattle.sheets.proofs.sheet.count_at.Goals as goal

pub returns : goal.returns
returns c =
    let s = c.args.sheet.now in
    omega (arith, count_three s c.requires)
