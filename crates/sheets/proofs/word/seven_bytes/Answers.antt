use Rattle.records.proofs.Laws.Computed as laws
use native.Mathlib.Omega.{arith}
use Rattle.sheets.proofs.word.seven_bytes.Goals as goal

pub returns : goal.returns
returns c =
    let a = c.args in
    let e = laws.seven_bytes a.sheet.now a.at c.requires in omega arith
