use native.Mathlib.Omega.{arith}
use lib.ListN.{length}
use Rattle.array_keys.proofs.Laws.Rows.{room_there, quick_inside}
use Rattle.array_keys.proofs.rows.quick_keys.Goals as goal

pub overflow_add-n : goal.overflow_add-n
overflow_add-n c =
    omega (
      arith,
      room_there c.loop-keys.n 3 (length c.loop-keys.keys) c.fits_in.ensures
          c.loop-keys-test.true,
    )

pub overflow_add-at : goal.overflow_add-at
overflow_add-at c = omega (arith, quick_inside c.three_keys.ensures c.if-three_keys.true)
