-- The records of a sheet: as many as it says, of 54 bits, and each by its bytes. Assumes nothing.
use Rattle.std.specs.Prelude.{◌≡◌, List, [], ◌∷◌, map, ℕ, zero, suc, ◌<◌, length, get_or, take, drop}
use Rattle.std.proofs.Common.{sym, ap, ◌∙◌, arith}
use Rattle.std.proofs.lemmas.List.{length-map}
use Rattle.records.specs.Width.{seven}
use Rattle.records.specs.Bytes.{number_written}
use Rattle.records.specs.Record.{carried}
use Rattle.records.specs.Sheet.{count_of, words_in, bare, width_of}
use Rattle.records.proofs.Laws.Bytes.{length_numbers_in, number_behind}
use Rattle.records.proofs.Laws.Mapped.{made_at}
use Rattle.records.proofs.Laws.Record.{location_fits, record_below, seven_sound}
use Rattle.records.proofs.Laws.Round.{said_wider}
use Rattle.records.proofs.Laws.Widths.{fits_wider}
use Rattle.comparison.specs.Compare.{records_of, record_place}

pub held_long : (s : List ℕ) → length (records_of s) ≡ count_of s
unfolding words_in
held_long s =
    let w = width_of s in
    length-map (words_in w.bytes s) (λ (n : ℕ). carried seven w (bare w n)) ∙ length_numbers_in w.bytes (count_of s) _

one_small : (s : List ℕ) (n : ℕ) → carried seven (width_of s) (bare (width_of s) n) < 18014398509481984
one_small s n = record_below seven_sound (fits_wider (said_wider (get_or s 0 0)) (location_fits (width_of s) (bare (width_of s) n)))

pub held_small : (s : List ℕ) (k : ℕ) → get_or (records_of s) k 0 < 18014398509481984
held_small s k = go (words_in (width_of s).bytes s) k
  where
    go : (l : List ℕ) (k : ℕ) → get_or (map (λ (n : ℕ). carried seven (width_of s) (bare (width_of s) n)) l) k 0 < 18014398509481984
    go [] k = omega arith
    go (x ∷ l) zero = one_small s x
    go (x ∷ l) (suc k) = go l k

-- the record of an index, by the bytes at its place
pub held_at : (s : List ℕ) (i : ℕ) → i < count_of s
    → carried seven (width_of s) (bare (width_of s) (number_written (take (width_of s).bytes (drop (record_place i s) s))))
    ≡ get_or (records_of s) i 0
unfolding words_in
held_at s i h =
    let w = width_of s in
    let f : ℕ → ℕ = λ (n : ℕ). carried seven w (bare w n) in
    ap f (sym (number_behind w.bytes (count_of s) i 4 s h))
    ∙ sym (made_at f (words_in w.bytes s) i (omega (arith, length_numbers_in w.bytes (count_of s) (drop 4 s))))
