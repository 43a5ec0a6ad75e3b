-- What `unpack` puts into the work space of a sheet that is not refused, and what the check of repeats says of it. Assumes nothing.
use Rattle.std.specs.Prelude.{◌≡◌, List, ℕ, ◌≤◌, eqb, length, take}
use Rattle.std.proofs.Common.{ap, ◌∙◌, arith, le-ltb}
use Rattle.std.proofs.Math.Bool.{not}
use Rattle.records.specs.Width.{seven}
use Rattle.records.specs.Fill.{wrote, length_wrote}
use Rattle.lists.specs.Lists.{two_of}
use Rattle.records.specs.Repeat.{ChecksRepeats}
use Rattle.records.proofs.Laws.Repeat.{repeat_told}
use Rattle.records.proofs.Laws.Sheet.{wrote_front}
use Rattle.records.specs.Outcome.{outcome, ends, passes, gives_first}
use Rattle.records.specs.Sheet.{count_of, width_of, Unpacks, unpack_refusal, unpacked_into}
use Rattle.records.specs.declared.outcome.Outcome.{Outcome}
use Rattle.comparison.specs.Compare.{records_of}
use Rattle.comparison.specs.Accepted.{sheet_refusal}
use Rattle.comparison.proofs.Laws.Accepted.{fine}
use Rattle.comparison.proofs.Laws.Held.{held_long}
use Rattle.compare.specs.Refused.{SheetFits}

-- what unpacking a sheet that is not refused does, where there is room
module _ {s before : List ℕ} {o : Outcome} {after : List ℕ} (u : Unpacks s before o after) (ok : sheet_refusal s ≡ 0)
    (room : count_of s ≤ length before) where
  none : unpack_refusal (width_of s) s (length before) ≡ 0
  unfolding unpack_refusal
  none = let f = fine s ok in gives_first (passes (ap not f.0) (passes (ap not f.1) (passes (le-ltb (length before)
      (count_of s) room) ends)))

  pub unpacked_value : o.value ≡ count_of s
  unpacked_value = ap (λ (a : Outcome). a.value) (u.answers ∙ ap (λ (n : ℕ). outcome n (count_of s)) none)

  pub unpacked_holds : after ≡ wrote 0 (records_of s) before
  unpacked_holds =
      let zero : o.number ≡ 0 = ap (λ (a : Outcome). a.number) u.answers ∙ none in
      u.holds ∙ ap (λ (n : ℕ). unpacked_into seven (width_of s) n s before) zero

-- whether a location stands in it twice, by the check of repeats
pub twice_told : {s before : List ℕ} {o : Outcome} {after last : List ℕ} {n r : ℕ} → n ≡ count_of s → Unpacks s before o after
    → SheetFits s (length before) → ChecksRepeats n (take n after) after r last → eqb r 14 ≡ two_of eqb (records_of s)
twice_told {s} {before} {o} {after} {last} {n} {r} value u fit checked =
    let holds = unpacked_holds u fit.fine fit.fits in
    let room = fit.fits in
    let long : length (records_of s) ≡ count_of s = held_long s in
    let whole : length (wrote 0 (records_of s) before) ≡ length before = length_wrote 0 (records_of s) before (omega arith) in
    let same : length after ≡ length before = ap length holds ∙ whole in
    let front : take n after ≡ records_of s = ap (take n) holds ∙ wrote_front (records_of s) before n (omega arith) in
    ap (λ (x : ℕ). eqb x 14) checked.answers ∙ repeat_told n (length after) (take n after) (omega arith) ∙ ap (two_of eqb) front
