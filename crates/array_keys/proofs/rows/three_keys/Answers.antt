use native.Mathlib.Omega.{arith}
use lib.ListN.{length}
use Rattle.array_keys.proofs.Laws.Rows.{sixteen, room_left}
use mathlib.Core.Path.{ap}
use mathlib.Core.Bool.{not}
use Rattle.array_keys.proofs.rows.three_keys.Goals as goal

pub returns : goal.returns
returns c = search sixteen

pub fits_in-requires : goal.fits_in-requires
fits_in-requires c = search sixteen

pub returns-then-not-fits_in : goal.returns-then-not-fits_in
returns-then-not-fits_in c = search sixteen

pub quick_bits-a-requires : goal.quick_bits-a-requires
quick_bits-a-requires c = search sixteen

pub overflow_add-at : goal.overflow_add-at
overflow_add-at c =
    omega (
      arith,
      room_left c.args.at 16 (length c.args.text.now)
          c.fits_in.ensures (ap not c.if-not-fits_in.false),
    )

pub quick_bits-b-requires : goal.quick_bits-b-requires
quick_bits-b-requires c = search sixteen

pub overflow_add-at-2 : goal.overflow_add-at-2
overflow_add-at-2 c =
    omega (
      arith,
      room_left c.args.at 16 (length c.args.text.now)
          c.fits_in.ensures (ap not c.if-not-fits_in.false),
    )

pub quick_bits-c-requires : goal.quick_bits-c-requires
quick_bits-c-requires c = search sixteen

pub overflow_add-at-3 : goal.overflow_add-at-3
overflow_add-at-3 c =
    omega (
      arith,
      room_left c.args.at 16 (length c.args.text.now)
          c.fits_in.ensures (ap not c.if-not-fits_in.false),
    )

pub quick_bits-d-requires : goal.quick_bits-d-requires
quick_bits-d-requires c = search sixteen

pub returns-then-a-b : goal.returns-then-a-b
returns-then-a-b c = search sixteen

pub write_three-requires : goal.write_three-requires
write_three-requires c = search sixteen

pub shape_of-keys : goal.shape_of-keys
shape_of-keys c = search sixteen
