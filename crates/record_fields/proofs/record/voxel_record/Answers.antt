use Rattle.records.specs.Fields.{bits, joined}
use Rattle.records.specs.Record.{record_in, within_in}
use native.Mathlib.Omega.{arith}
use Rattle.record_fields.proofs.record.voxel_record.Goals as goal

pub returns : goal.returns
unfolding record_in within_in bits joined
returns c = omega arith
