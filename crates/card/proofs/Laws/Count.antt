-- How many lines the card has, as the code counts them: of dimensions, of records stretch by stretch, and in all.
use Rattle.std.specs.Prelude.{◌≡◌, List, take, drop}
use Rattle.std.proofs.Math.Path.{refl, sym, ap}
use Rattle.std.proofs.Common.{◌∙◌, rules, length-append, length-drop}
use Prim.Native.Nat.{ℕ, suc, ◌+◌, ◌-◌, ◌^◌, ◌≤◌, ◌<◌, min}
use native.Mathlib.Omega.{arith}
use Rattle.std.proofs.Math.Numerals.{add-one}
use Rattle.std.proofs.Math.ListN.{length, get_or, length-take}
use Rattle.std.proofs.Math.Seq.{drop-drop}
use Rattle.cifti.specs.Answer.{unused}
use Rattle.cifti.specs.declared.answer.Dimension.{Dimension}
use Rattle.cifti.specs.declared.answer.Answer.{Answer}
use Rattle.card.specs.Card.{dimension_line, dimension_lines, numbered, length_from, record_lines, answer_dimensions, card_lines}
use Rattle.card.proofs.Laws.Theorems.{one_most, dimensions_most, records_most}
use Rattle.card.proofs.Laws.Line.{from_each, none_left}
use Rattle.card.proofs.Laws.Records.{numbered_length}
use Rattle.card.proofs.Laws.Card.{same_count, refused_card, accepted_card}

none_yet : (n : ℕ) → n ≡ 0 + n
none_yet n = omega arith

-- ---- The lines of dimensions: n of those before dimension d.

pub record Dimensions (a : Answer) (n d : ℕ) : Type 0 where
  pub dimensions : d ≤ 3
  pub few : n ≤ d
  pub same : length (dimension_lines 0 (answer_dimensions a)) ≡ n + length (dimension_lines d (drop d (answer_dimensions a)))

module _ (a : Answer) where
  pub dimensions_start : Dimensions a 0 0
  dimensions_start = record { dimensions = omega arith; few = omega arith; same = none_yet _ }

  module _ {n d : ℕ} (counted : Dimensions a n d) where
    pub dimensions_done : 3 ≤ d → n ≡ length (dimension_lines 0 (answer_dimensions a))
    unfolding dimension_lines
    dimensions_done h = sym (counted.same ∙ rw (none_left a d h) (omega arith))

    module _ (more : d < 3) {lines : ℕ} (asked : lines ≡ length (dimension_line 0 (get_or a.dimensions d unused))) where
      dimensions_few : lines ≤ 1
      dimensions_few = omega (arith, one_most 0 (get_or a.dimensions d unused))

      pub dimensions_fit : n + lines < 2 ^ 64
      dimensions_fit = omega (arith, dimensions_few)

      these_first : length (dimension_lines d (drop d (answer_dimensions a)))
          ≡ lines + length (dimension_lines (d + 1) (drop (d + 1) (answer_dimensions a)))
      unfolding dimension_lines
      these_first =
          let x : Dimension = get_or a.dimensions d unused in
          rw (from_each a d more, add-one d)
          (length-append (dimension_line d x) (dimension_lines (suc d) (drop (suc d) (answer_dimensions a)))
          ∙ ap (λ k. k + length (dimension_lines (suc d) (drop (suc d) (answer_dimensions a)))) (same_count d x ∙ sym asked))

      pub dimensions_on : Dimensions a (n + lines) (d + 1)
      dimensions_on =
          record { dimensions = omega arith; few = omega (arith, dimensions_few); same = omega (arith, counted.same, these_first) }

pub ruleset dimensionSteps = (dimensions_start, dimensions_done, dimensions_fit, dimensions_on, rules)

-- ---- The lines of records: one for each place before `at`.

pub record Stretches (dims : List Dimension) (records : List ℕ) (at round : ℕ) : Type 0 where
  pub rounds : round ≤ 3
  pub inside : at ≤ length records
  pub same : length (record_lines 3 0 dims records) ≡ at + length (record_lines (3 - round) at dims (drop at records))

module _ (dims : List Dimension) (records : List ℕ) where
  pub stretches_start : Stretches dims records 0 0
  stretches_start = record { rounds = omega arith; inside = omega arith; same = none_yet _ }

  module _ {at round : ℕ} (counted : Stretches dims records at round) where
    pub stretches_done : 3 ≤ round → at ≡ length (record_lines 3 0 dims records)
    unfolding record_lines
    stretches_done h = let e : 3 - round ≡ 0 = omega arith in sym (counted.same ∙ rw e (omega arith))

    module _ (more : round < 3) {long reach : ℕ} (asked : long ≡ length_from at dims) (least : reach ≡ min long (length records - at)) where
      part : List ℕ
      part = take (length_from at dims) (drop at records)

      part_length : length part ≡ reach
      unfolding part
      part_length = length-take (length_from at dims) (drop at records) ∙ rw (length-drop at records, least, asked) refl

      pub stretches_room : reach ≤ length records - at
      stretches_room = omega arith

      part_first : length (record_lines (3 - round) at dims (drop at records))
          ≡ reach + length (record_lines (3 - (round + 1)) (at + reach) dims (drop (at + reach) records))
      unfolding record_lines part
      part_first =
          let e : 3 - round ≡ suc (3 - (round + 1)) = omega arith in
          rw (e, part_length, drop-drop reach at records)
          (length-append (numbered 0 part) (record_lines (3 - (round + 1)) (at + reach) dims (drop (at + reach) records))
          ∙ ap (λ k. k + length (record_lines (3 - (round + 1)) (at + reach) dims (drop (at + reach) records)))
          (numbered_length 0 part ∙ part_length))

      pub stretches_on : Stretches dims records (at + reach) (round + 1)
      stretches_on =
          record { rounds = omega arith; inside = omega (arith, stretches_room); same = omega (arith, counted.same, part_first) }

pub ruleset stretchSteps = (stretches_start, stretches_done, stretches_room, stretches_on, rules)

-- ---- All lines.

module _ (a : Answer) (records : List ℕ) where
  pub lines_refused : (a.number ≡ 0 → ⊥) → 1 ≡ card_lines a records
  lines_refused h = sym (rw (refused_card a records h) refl)

  module _ {n m : ℕ} (some : n ≡ length (dimension_lines 0 (answer_dimensions a)))
      (others : m ≡ length (record_lines 3 0 (answer_dimensions a) records)) where
    pub lines_accepted : a.number ≡ 0 → 1 + n + m ≡ card_lines a records
    lines_accepted e = sym (rw (accepted_card a records e)
        (omega (arith, length-append (dimension_lines 0 (answer_dimensions a)) (record_lines 3 0 (answer_dimensions a) records))))

  -- how many there are at most, for the sums to fit
  pub lines_few : {n : ℕ} → n ≡ length (dimension_lines 0 (answer_dimensions a)) → n ≤ 3
  unfolding answer_dimensions
  lines_few e = omega (arith, dimensions_most 0 (answer_dimensions a))

  pub lines_inside : {m : ℕ} → m ≡ length (record_lines 3 0 (answer_dimensions a) records) → m ≤ length records
  lines_inside e = omega (arith, records_most 3 0 (answer_dimensions a) records)

pub ruleset countSteps = (lines_refused, lines_accepted, rules)
