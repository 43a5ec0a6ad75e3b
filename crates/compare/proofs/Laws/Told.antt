-- Whether a location stands in a sheet twice, by the check of repeats over the records that `unpack` counted. Assumes nothing.
use Rattle.std.specs.Prelude.{◌≡◌, List, ℕ, eqb, length, take}
use Rattle.lists.specs.Lists.{two_of}
use Rattle.records.specs.Repeat.{ChecksRepeats}
use Rattle.records.specs.Sheet.{Unpacks}
use Rattle.records.specs.declared.outcome.Outcome.{Outcome}
use Rattle.comparison.specs.Compare.{records_of}
use Rattle.compare.specs.Refused.{SheetFits}
use Rattle.compare.proofs.Laws.Held as held

pub twice_told : {s before : List ℕ} {o : Outcome} {after last : List ℕ} {r : ℕ} → Unpacks s before o after → SheetFits s (length before)
    → ChecksRepeats o.value (take o.value after) after r last → eqb r 14 ≡ two_of eqb (records_of s)
twice_told u fit checked = held.twice_told (held.unpacked_value u fit.fine fit.fits) u fit checked
