use Prim.Native.Nat.{suc, ◌+◌, ◌≤◌}
use native.Mathlib.Omega.{arith}
use lib.ListN.{length}
use Rattle.gifti_arrays.proofs.Laws.Tally.{counting}
use Rattle.gifti_arrays.proofs.tally.count_rows.Goals as goal

pub loop-row-init : goal.loop-row-init
loop-row-init c = search counting

pub overflow_add-known : goal.overflow_add-known
overflow_add-known c =
    let few : c.loop-row.known + c.known_among-known.result ≤ suc (length c.args.text.now) = search counting in
    omega (arith, few)

pub loop-row-preserved : goal.loop-row-preserved
loop-row-preserved c = search counting
