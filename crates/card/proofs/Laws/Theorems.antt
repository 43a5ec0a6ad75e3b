-- How many lines a card has at most: `ok`, three dimensions, and one for each record lent.
use Rattle.std.specs.Prelude.{List, [], ◌∷◌, Bool, true, false, cond, eqb, ℕ, zero, suc, ◌+◌, ◌≤◌, length, take, drop}
use Rattle.std.proofs.Common.{arith, length-append, length-take, length-drop}
use Rattle.cifti.specs.Maps.{kind_number}
use Rattle.cifti.specs.declared.answer.Dimension.{Dimension}
use Rattle.cifti.specs.declared.answer.Answer.{Answer}
use Rattle.card.proofs.Laws.Records.{numbered_length}
use Rattle.card.specs.Card.{map_line, dimension_line, dimension_lines, numbered, length_from, record_lines, card_by, answer_dimensions}
use Rattle.card.specs.Card.{card, card_lines}

pub records_most : (n at : ℕ) (l : List Dimension) (records : List ℕ) → length (record_lines n at l records) ≤ length records
unfolding record_lines
records_most zero at l records = omega arith
records_most (suc n) at l records =
    let stretch : List ℕ = take (length_from at l) records in
    let later : List ℕ = drop (length stretch) records in
    omega (
      arith,
      length-append (numbered 0 stretch) (record_lines n (at + length stretch) l later),
      numbered_length 0 stretch,
      records_most n (at + length stretch) l later,
      length-drop (length stretch) records,
      length-take (length_from at l) records,
    )

pub one_most : (d : ℕ) (x : Dimension) → length (dimension_line d x) ≤ 1
unfolding dimension_line
one_most d x = go (eqb (kind_number x.kind) 0)
  where
    go : (b : Bool) → length (cond b [] (map_line d x ∷ [])) ≤ 1
    go true = omega arith
    go false = omega arith

pub dimensions_most : (d : ℕ) (l : List Dimension) → length (dimension_lines d l) ≤ length l
unfolding dimension_lines
dimensions_most d [] = omega arith
dimensions_most d (x ∷ l) = omega (
  arith,
  length-append (dimension_line d x) (dimension_lines (suc d) l),
  one_most d x,
  dimensions_most (suc d) l,
)

pub lines_most : (a : Answer) (records : List ℕ) → card_lines a records ≤ 4 + length records
unfolding card card_by answer_dimensions
lines_most a records = go a.number
  where
    go : (n : ℕ) → length (card_by n (answer_dimensions a) records) ≤ 4 + length records
    go zero = omega (
      arith,
      length-append (dimension_lines 0 (answer_dimensions a)) (record_lines 3 0 (answer_dimensions a) records),
      dimensions_most 0 (answer_dimensions a),
      records_most 3 0 (answer_dimensions a) records,
    )
    go (suc n) = omega arith
