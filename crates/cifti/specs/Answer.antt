-- THE ANSWER, THE TABLE OF RECORDS, AND THE PROMISE OF THE READER.
use Rattle.std.specs.Prelude.{◌≡◌, List, [], ◌∷◌, ◌++◌, cond, ℕ, zero, suc, ◌+◌, ◌-◌, eqb, pos, length, get_or, drop, replicate, Option, Some, None}
use Rattle.lists.specs.Lists.{any, each, each_in, tabulated}
use Rattle.grammar.specs.Document.{Element}
use Rattle.numbers.specs.Numbers.{no_decimal}
use Rattle.records.specs.Record.{record_of}
use Rattle.cifti.specs.Maps.{Model, Map, SeriesValues, is_brain, is_series, maps_of, brain_maps, length_of, covers, locations}
use Rattle.cifti.specs.Conditions.{refusal}
use Rattle.cifti.specs.Text.{Answers}
use Rattle.cifti.specs.declared.answer.Kind.{Kind}
use Rattle.cifti.specs.declared.answer.Kind.TheVariants as kinds
use Rattle.cifti.specs.declared.answer.Series as S
use Rattle.cifti.specs.declared.answer.Dimension.{Dimension}
use Rattle.cifti.specs.declared.answer.Answer.{Answer}

-- ---- The records: each brain map fills one stretch, stretches in text order of maps, index n of the map at its n-th place.

-- the record of index n: in the list of the model whose range the index is in, at the index less the model's offset
unfoldable pub record_at : List Model → ℕ → ℕ
record_at [] n = 0
record_at (m ∷ l) n = cond (covers n m) (get_or (each record_of (locations m)) (n - m.offset) 0) (record_at l n)

unfoldable pub stretch : Map → List ℕ
stretch m = tabulated (length_of m) (record_at m.models)

unfoldable pub stretches : List Map → List ℕ
stretches l = each_in stretch (brain_maps l)

-- places past the last stretch stay unchanged
unfoldable pub filled_with : (new old : List ℕ) → List ℕ
filled_with new old = new ++ drop (length new) old

-- ---- The answer: number 0, and per dimension kind, length, stretch start, and for series start, step, exponent and unit. What does not
-- apply is 0.

abbrev pub no_series : S.Series
no_series = record { start = no_decimal; step = no_decimal; exponent = pos 0; unit = 0 }

abbrev pub dimension_by : Kind → (length start : ℕ) → S.Series → Dimension
dimension_by kind length start series = record { kind = kind; length = length; start = record { 0 = start }; series = series }

abbrev pub unused : Dimension
unused = dimension_by kinds.None 0 0 no_series

unfoldable pub as_series : SeriesValues → S.Series
as_series s = record { start = s.start; step = s.step; exponent = s.exponent; unit = s.unit }

-- what the answer says of a map whose stretch begins at `at`, if it has one
unfoldable pub described : (at : ℕ) → Map → Dimension
described at m = dimension_by m.kind (length_of m) (cond (is_brain m.kind) at 0)
    (cond (is_series m.kind) (as_series m.series) no_series)

-- how many places a map's stretch takes
unfoldable pub reach : Map → ℕ
reach m = cond (is_brain m.kind) (length_of m) 0

-- dimension d: the map that lists it
unfoldable pub dimension_at : (at : ℕ) → List Map → (d : ℕ) → Dimension
dimension_at at [] d = unused
dimension_at at (m ∷ l) d = cond (any (eqb d) m.dimensions) (described at m) (dimension_at (at + reach m) l d)

unfoldable pub accepted_with : List Map → Answer
accepted_with l = record { number = 0; dimensions = dimension_at 0 l 0 ∷ dimension_at 0 l 1 ∷ dimension_at 0 l 2 ∷ [] }

-- A refused answer is zero but for its number.
abbrev pub refused_with : (number : ℕ) → Answer
refused_with n = record { number = n; dimensions = unused ∷ unused ∷ unused ∷ [] }

-- ---- What comes of a number of refusal (0: none) and the document: the answer, and the records after. Refused, they keep their contents.

-- (without a document there is a refusal)
unfoldable pub maps_in : Option Element → List Map
maps_in None = []
maps_in (Some e) = maps_of e

unfoldable pub answer_by : (number : ℕ) → Option Element → Answer
answer_by zero d = accepted_with (maps_in d)
answer_by (suc n) d = refused_with (suc n)

unfoldable pub records_by : (number : ℕ) → Option Element → (records : List ℕ) → List ℕ
records_by zero d records = filled_with (stretches (maps_in d)) records
records_by (suc n) d records = records

-- The same over the lengths, the size of the text and the room lent, which decide the number.
unfoldable pub answer_to : (lengths : List ℕ) (room work size : ℕ) → Option Element → Answer
answer_to lengths room work size d = answer_by (refusal lengths size room work d) d

unfoldable pub records_after : (lengths records : List ℕ) (work size : ℕ) → Option Element → List ℕ
records_after lengths records work size d = records_by (refusal lengths size (length records) work d) d records

-- ---- THE PROMISE: text, lengths, records and work space lent; the answer; records and work space after.

pub record Reads (text lengths records work : List ℕ) (answer : Answer) (after workAfter : List ℕ) : Type 0 where
  pub answered : Answers text (answer_to lengths (length records) (length work) (length text)) answer
  pub filled : Answers text (records_after lengths records (length work) (length text)) after
  pub cleared : workAfter ≡ replicate (length work) 0

unfoldable pub answer_words : Unit {0}
unfolding record_at stretch stretches filled_with as_series described reach dimension_at accepted_with maps_in answer_by records_by answer_to
    records_after
answer_words = tt
