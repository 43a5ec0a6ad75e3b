-- ASKING A LIST: when it is bad, the type and structure at an index, the index of a record. Ranges are compared as numbers.
-- Assumes nothing.
use Rattle.std.specs.Prelude.{◌≡◌, Bool, true, false, not, ◌&&◌, ◌||◌, List, [], ◌∷◌, ℕ, ◌+◌, eqb, leb, ltb, length, get_or, take, drop}
use Rattle.std.specs.Prelude.{Result, Ok, Err}
use Rattle.lists.specs.Lists.{any, those, two_of}
use Rattle.lists.specs.Refusals.{◌when◌, first}
use Rattle.records.specs.Record.{record_of, location_of}
use Rattle.records.specs.Find.{FirstPlace}
use Rattle.records.specs.Outcome.{unless}
use Rattle.records.specs.declared.counters.Index.{Index}
use Rattle.shortlist.specs.Faults.{search_fault_number}
use Rattle.shortlist.specs.Runs.{most_structure, kind_of, kind_in, of_one_kind}
use Rattle.shortlist.specs.declared.answer.Model.{Model}
use Rattle.shortlist.specs.declared.answer.Told.{Told}
use Rattle.shortlist.specs.declared.answer.SearchFault.{SearchFault}

-- ---- A bad list.

-- the range holds no index; the structure is none; the range reaches past n records
unfoldable pub empty : Model → Bool
empty m = eqb m.count 0

unfoldable pub no_structure : Model → Bool
no_structure m = ltb most_structure m.structure

unfoldable pub past_end : ℕ → Model → Bool
past_end n m = ltb n (m.first.0 + m.count)

-- the first range begins at the index, and each other where the one before it ends
unfoldable pub runs_on_from : ℕ → List Model → Bool
runs_on_from at [] = true
runs_on_from at (m ∷ l) = eqb m.first.0 at && runs_on_from (at + m.count) l

unfoldable pub bad_list : List Model → Bool
bad_list l = any empty l || (not (runs_on_from 0 l) || (two_of of_one_kind l || any no_structure l))

-- ---- The entry that is asked for.

unfoldable pub holds_index : ℕ → Model → Bool
holds_index n m = leb m.first.0 n && ltb n (m.first.0 + m.count)

abbrev pub of_kind : ℕ → Model → Bool
of_kind k m = eqb (kind_in m) k

abbrev pub no_model : Model
no_model = record { first = record { 0 = 0 }; count = 0; voxels = false; structure = 0 }

-- the first that passes; one of no indices where none does
unfoldable pub the_model : (Model → Bool) → List Model → Model
the_model p l = get_or (those p l) 0 no_model

-- the records of its range
unfoldable pub records_in_range : Model → List ℕ → List ℕ
records_in_range m rs = take m.count (drop m.first.0 rs)

-- a number of no more bits than a record has
unfoldable pub is_record : ℕ → Bool
is_record x = eqb (record_of (location_of x)) x

-- the records among which a record is looked for: those of its own type and structure
unfoldable pub own_stretch : List Model → List ℕ → ℕ → List ℕ
own_stretch l rs x = records_in_range (the_model (of_kind (kind_of x)) l) rs

-- ---- The type and structure at an index.

-- what a model tells of the indices in its range
abbrev pub told_in : Model → Told
told_in m = record { voxels = m.voxels; structure = m.structure }

abbrev pub told_number : Result Told SearchFault → ℕ
told_number (Ok t) = 0
told_number (Err e) = search_fault_number e

abbrev pub told_voxels : Result Told SearchFault → Bool
told_voxels (Ok t) = t.voxels
told_voxels (Err e) = false

abbrev pub told_structure : Result Told SearchFault → ℕ
told_structure (Ok t) = t.structure
told_structure (Err e) = 0

unfoldable pub tell_refusal : List Model → ℕ → ℕ
tell_refusal l n = first (26 when bad_list l ∷ 19 when not (any (holds_index n) l) ∷ [])

-- what `structure_at` promises
pub record Tells (l : List Model) (n : ℕ) (answer : Result Told SearchFault) : Type 0 where
  pub numbered : told_number answer ≡ tell_refusal l n
  pub voxels : told_voxels answer ≡ unless (told_number answer) (the_model (holds_index n) l).voxels false
  pub structure : told_structure answer ≡ unless (told_number answer) (the_model (holds_index n) l).structure 0

-- ---- The index of a record.

abbrev pub sought_number : Result Index SearchFault → ℕ
sought_number (Ok n) = 0
sought_number (Err e) = search_fault_number e

abbrev pub sought_index : Result Index SearchFault → ℕ
sought_index (Ok n) = n.0
sought_index (Err e) = 0

unfoldable pub seek_refusal : List Model → List ℕ → ℕ → ℕ
seek_refusal l rs x =
    first
    (26 when (bad_list l || any (past_end (length rs)) l)
    ∷ 19 when not (is_record x && any (eqb x) (own_stretch l rs x))
    ∷ [])

-- the index is that of the first place in the stretch of the record's own type and structure
pub record StandsAt (l : List Model) (rs : List ℕ) (x n : ℕ) : Type 0 where
  pub place : ℕ
  pub first_place : FirstPlace (own_stretch l rs x) x place
  pub index_is : n ≡ (the_model (of_kind (kind_of x)) l).first.0 + place

-- what `index_of` promises
pub record Seeks (l : List Model) (rs : List ℕ) (x : ℕ) (answer : Result Index SearchFault) : Type 0 where
  pub numbered : sought_number answer ≡ seek_refusal l rs x
  pub found : sought_number answer ≡ 0 → StandsAt l rs x (sought_index answer)
  pub refused : (sought_number answer ≡ 0 → ⊥) → sought_index answer ≡ 0

-- opens every definition above
unfoldable pub ask_words : Unit {0}
unfolding empty no_structure past_end runs_on_from bad_list holds_index the_model records_in_range is_record own_stretch
ask_words = tt
