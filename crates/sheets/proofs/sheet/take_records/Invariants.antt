use mathlib.Core.Path.{◌≡◌}
use mathlib.Core.List.{List}
use Prim.Native.Nat.{ℕ}
use lib.ListN.{take, drop}
use Rattle.records.specs.Width.{seven, width_said}
use Rattle.records.specs.Sheet.{held_by}
use Rattle.records.specs.Fill.{wrote}
use Rattle.records.specs.Bytes.{numbers_in}
use Rattle.sheets.proofs.sheet.take_records.Given as goal

abbrev pub held : (b n : ℕ) → List ℕ → List ℕ
held b n s = held_by seven (width_said b) (numbers_in (width_said b).bytes n (drop 4 s))

-- the records passed stand in front
abbrev pub invariant-loop-i : goal.invariant-loop-i
invariant-loop-i l = l.records ≡ wrote 0 (take l.i (held l.width l.n l.sheet)) l.initial.records
