use native.Mathlib.Omega.{arith}
use Rattle.base64_reader.proofs.Laws.Quick.{quick_place}
use Rattle.array_keys.proofs.Laws.Gathered.{gathering, gather_quick}
use Rattle.array_keys.proofs.coded.gathered.Goals as goal

pub loop-bytes-init : goal.loop-bytes-init
loop-bytes-init c = search gathering

pub loop-bytes-smaller-then-bits-lt16777216 : goal.loop-bytes-smaller-then-bits-lt16777216
loop-bytes-smaller-then-bits-lt16777216 c = search gathering

pub loop-bytes-preserved-then-bits-lt16777216 : goal.loop-bytes-preserved-then-bits-lt16777216
loop-bytes-preserved-then-bits-lt16777216 c = gather_quick c.loop-bytes.invariant c.loop-bytes-test.true
    c.quick_bits-bits.ensures c.if-bits-lt16777216.true

pub more_held-held-requires : goal.more_held-held-requires
more_held-held-requires c = search gathering

pub loop-bytes-smaller : goal.loop-bytes-smaller
loop-bytes-smaller c = search gathering

pub loop-bytes-preserved : goal.loop-bytes-preserved
loop-bytes-preserved c = search gathering

pub returns : goal.returns
returns c = search gathering

pub kept_bytes-bytes-requires : goal.kept_bytes-bytes-requires
kept_bytes-bytes-requires c = search gathering

pub quick_bits-bits-requires : goal.quick_bits-bits-requires
quick_bits-bits-requires c = search gathering

pub overflow_mul-held : goal.overflow_mul-held
overflow_mul-held c = search gathering

pub overflow_add-held : goal.overflow_add-held
overflow_add-held c = search gathering

pub overflow_add-bytes : goal.overflow_add-bytes
overflow_add-bytes c = search gathering

pub overflow_add-at : goal.overflow_add-at
overflow_add-at c = omega (arith, quick_place c.quick_bits-bits.ensures c.if-bits-lt16777216.true)

pub any_group-requires : goal.any_group-requires
any_group-requires c = search gathering

pub enum_known-v : goal.enum_known-v
enum_known-v c = search gathering

pub place-requires : goal.place-requires
place-requires c = search gathering

pub place-requires-2 : goal.place-requires-2
place-requires-2 c = search gathering

pub returns-in_default : goal.returns-in_default
returns-in_default c = search gathering

pub overflow_add-bytes-else-bits-lt16777216 : goal.overflow_add-bytes-else-bits-lt16777216
overflow_add-bytes-else-bits-lt16777216 c = search gathering
