use lib.Seq.{sets-eq}
use mathlib.Core.List.{[], ◌∷◌}
use Prim.Native.Nat.{◌/◌, ◌%◌}
use Rattle.records.proofs.Laws.Computed.{head_bytes}
use Rattle.sheets.proofs.sheet.put_head.Goals as goal

pub returns : goal.returns
returns c = let n = c.args.n in rw head_bytes
    (sets-eq (7 ∷ n / 65536 % 256 ∷ n / 256 % 256 ∷ n % 256 ∷ []) c.args.sheet.now 0 c.requires)
