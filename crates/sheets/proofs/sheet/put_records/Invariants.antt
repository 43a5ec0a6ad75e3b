use mathlib.Core.Path.{◌≡◌}
use lib.ListN.{take}
use Rattle.records.specs.Width.{seven}
use Rattle.records.specs.Sheet.{with_ends}
use Rattle.records.specs.Fill.{wrote}
use Rattle.records.specs.Bytes.{body}
use Rattle.sheets.proofs.sheet.put_records.Given as goal

-- the records passed stand behind the head
abbrev pub invariant-loop-i : goal.invariant-loop-i
invariant-loop-i l = l.sheet ≡ wrote 4 (body 7 (take l.i (with_ends seven l.records))) l.initial.sheet
