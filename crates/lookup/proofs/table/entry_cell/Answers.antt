use Prim.Native.Nat.{◌<◌}
use Rattle.std.proofs.Common.{rules}
use lib.ListN.{length}
use Rattle.lookup.proofs.Laws.Cells.{capped_entry}
use Rattle.lookup.proofs.table.entry_cell.Goals as goal

pub returns : goal.returns
returns c =
    let long : length c.args.table.now < 18446744073709551616 = search rules in (
      capped_entry c.args.table.now long _ _ _ _ c.cell-from.ensures.0 c.saturating_mul.ensures
          c.saturating_add.ensures c.saturating_add-2.ensures c.cell.ensures.0,
      c.cell.ensures.1,
    )
