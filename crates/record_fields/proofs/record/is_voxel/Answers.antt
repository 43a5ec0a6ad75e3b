use mathlib.Core.Path.{refl}
use Rattle.records.specs.Fields.{bits, parts_of}
use Rattle.records.specs.Record.{is_voxel_in}
use Rattle.record_fields.proofs.record.is_voxel.Goals as goal

pub returns : goal.returns
unfolding is_voxel_in bits parts_of
returns c = refl
