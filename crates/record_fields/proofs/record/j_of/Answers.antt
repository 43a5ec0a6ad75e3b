use Rattle.records.specs.Fields.{bits, parts_of}
use Rattle.records.specs.Record.{j_in}
use native.Mathlib.Omega.{arith}
use Rattle.record_fields.proofs.record.j_of.Goals as goal

pub returns : goal.returns
unfolding j_in bits parts_of
returns c = omega arith
