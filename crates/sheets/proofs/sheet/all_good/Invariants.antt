use lib.ListN.{drop}
use mathlib.Core.Path.{◌≡◌}
use mathlib.Core.List.{List}
use Prim.Native.Nat.{ℕ}
use Rattle.records.specs.Width.{width_said}
use Rattle.records.specs.Bytes.{numbers_in}
use Rattle.records.specs.Sheet.{all_good}
use Rattle.sheets.proofs.sheet.all_good.Given as goal

abbrev pub words : (b n : ℕ) → List ℕ → List ℕ
words b n s = numbers_in (width_said b).bytes n (drop 4 s)

-- all are good exactly where those to come are
abbrev pub invariant-loop-i : goal.invariant-loop-i
invariant-loop-i l =
    all_good (width_said l.width) (words l.width l.n l.sheet) ≡ all_good (width_said l.width) (drop l.i (words l.width l.n l.sheet))
