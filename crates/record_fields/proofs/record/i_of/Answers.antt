use Rattle.records.specs.Fields.{bits, parts_of}
use Rattle.records.specs.Record.{i_in}
use native.Mathlib.Omega.{arith}
use Rattle.record_fields.proofs.record.i_of.Goals as goal

pub returns : goal.returns
unfolding i_in bits parts_of
returns c = omega arith
