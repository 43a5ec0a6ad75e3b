-- Where the rest stands, by the number of two sheets that are not refused. Assumes nothing.
use Rattle.std.specs.Prelude.{◌≡◌, List, ℕ, ◌-◌, ◌≤◌, ◌<◌, length}
use Rattle.std.proofs.Common.{sym, ap, ◌∙◌}
use Rattle.records.specs.Sheet.{count_of}
use Rattle.comparison.specs.Compare.{record_place, compare_refusal, placed}
use Rattle.comparison.proofs.Laws.Part as parts

module _ (s t : List ℕ) (room : ℕ) {number n m start : ℕ} (e : number ≡ compare_refusal s t room) (z : number ≡ 0)
    (ns : n ≡ count_of s) (ms : m ≡ count_of t) where
  pub place_second : n < m → start ≡ record_place n t → record { number = 0; sheet = 1; start = start; length = length t - start }
      ≡ placed (compare_refusal s t room) s t
  place_second h q = parts.place_second s t ns ms h q ∙ ap (λ (k : ℕ). placed k s t) (sym z ∙ e)

  pub place_first : m ≤ n → start ≡ record_place m s → record { number = 0; sheet = 0; start = start; length = length s - start }
      ≡ placed (compare_refusal s t room) s t
  place_first h q = parts.place_first s t ns ms h q ∙ ap (λ (k : ℕ). placed k s t) (sym z ∙ e)
