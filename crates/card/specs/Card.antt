-- THE MORNING CARD: the lines that an answer and its table of records give, in order.
use Rattle.std.specs.Prelude.{List, [], ◌∷◌, ◌++◌, Bool, ◌&&◌, cond, ℕ, zero, suc, ◌+◌, eqb, length, get_or, take, drop}
use Rattle.records.specs.Record.{Location, on_surface, in_volume, location_of}
use Rattle.cifti.specs.Maps.{kind_number, is_brain}
use Rattle.cifti.specs.Answer.{unused}
use Rattle.cifti.specs.declared.answer.Dimension.{Dimension}
use Rattle.cifti.specs.declared.answer.Answer.{Answer}
use Rattle.card.specs.declared.line.Line.{Line}
use Rattle.card.specs.declared.line.Line.TheVariants.{Accepted, Refused, Map, MapAt, Surface, Voxel}

-- ---- One line for each dimension that exists, in order: its kind and length, and where its stretch begins if it has one.

unfoldable pub map_line : (d : ℕ) → Dimension → Line
map_line d x = cond (is_brain x.kind) (MapAt d x.kind x.length x.start) (Map d x.kind x.length)

unfoldable pub dimension_line : (d : ℕ) → Dimension → List Line
dimension_line d x = cond (eqb (kind_number x.kind) 0) [] (map_line d x ∷ [])

unfoldable pub dimension_lines : (d : ℕ) → List Dimension → List Line
dimension_lines d [] = []
dimension_lines d (x ∷ l) = dimension_line d x ++ dimension_lines (suc d) l

-- ---- The lines of records, stretch by stretch. A line begins with the index in the map, from 0 in each stretch.

unfoldable pub location_line : (index : ℕ) → Location → Line
location_line n (on_surface structure vertex) = Surface (record { 0 = n }) structure (record { 0 = vertex })
location_line n (in_volume structure i j k) = Voxel (record { 0 = n }) structure i j k

unfoldable pub record_line : (index number : ℕ) → Line
record_line n r = location_line n (location_of r)

unfoldable pub numbered : (index : ℕ) → (records : List ℕ) → List Line
numbered n [] = []
numbered n (r ∷ l) = record_line n r ∷ numbered (suc n) l

-- how long the stretch is that begins at a place; two dimensions of one map tell the same stretch
unfoldable pub stretch_begins : (at : ℕ) → Dimension → Bool
stretch_begins at x = is_brain x.kind && eqb x.start.0 at

unfoldable pub length_from : (at : ℕ) → List Dimension → ℕ
length_from at [] = 0
length_from at (x ∷ l) = cond (stretch_begins at x) x.length (length_from at l)

-- The stretches stand one behind the other: the first begins at place 0, the next where the one before ends. `records` are those from the
-- place `at` on.
unfoldable pub record_lines : (stretches at : ℕ) → List Dimension → (records : List ℕ) → List Line
record_lines zero at l records = []
record_lines (suc n) at l records =
    let stretch = take (length_from at l) records in
    numbered 0 stretch ++ record_lines n (at + length stretch) l (drop (length stretch) records)

-- ---- The card. A refusal stands alone. There are at most three dimensions, so at most three stretches.

unfoldable pub card_by : (number : ℕ) → List Dimension → (records : List ℕ) → List Line
card_by zero l records = Accepted ∷ (dimension_lines 0 l ++ record_lines 3 0 l records)
card_by (suc n) l records = Refused (suc n) ∷ []

unfoldable pub answer_dimensions : Answer → List Dimension
answer_dimensions a = get_or a.dimensions 0 unused ∷ get_or a.dimensions 1 unused ∷ get_or a.dimensions 2 unused ∷ []

unfoldable pub card : Answer → (records : List ℕ) → List Line
card a records = card_by a.number (answer_dimensions a) records

-- how many lines are printed
abbrev pub card_lines : Answer → (records : List ℕ) → ℕ
card_lines a records = length (card a records)

unfoldable pub card_words : Unit {0}
unfolding map_line dimension_line dimension_lines location_line record_line numbered stretch_begins length_from record_lines card_by
    answer_dimensions card
card_words = tt
