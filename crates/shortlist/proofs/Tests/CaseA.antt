-- CASE A'S LIST: 0 2 S 18, 2 1 V 6; the record of vertex 1 has index 1. Assumes nothing.
use Rattle.std.specs.Prelude.{◌≡◌, refl, true, false, List, [], ◌∷◌, map, ℕ}
use Rattle.lists.specs.Lists.{lists}
use Rattle.lists.specs.Refusals.{refusals}
use Rattle.records.specs.Record.{on_surface, in_volume, record_of, record_words}
use Rattle.records.specs.Sheet.{good_count}
use Rattle.shortlist.specs.Runs.{runs, run_words}
use Rattle.shortlist.specs.Making.{list_refusal}
use Rattle.shortlist.specs.Asking.{tell_refusal, seek_refusal, the_model, holds_index, ask_words, own_stretch}
use Rattle.shortlist.specs.declared.answer.Model.{Model}

pub case_a : List ℕ
case_a = map record_of (on_surface 18 4 ∷ on_surface 18 1 ∷ in_volume 6 2 3 5 ∷ [])

pub list_a : List Model
list_a = record { first = record { 0 = 0 }; count = 2; voxels = false; structure = 18 }
    ∷ record { first = record { 0 = 2 }; count = 1; voxels = true; structure = 6 }
    ∷ []

pub list_of_case_a : runs case_a ≡ list_a
unfolding case_a list_a record_words run_words
list_of_case_a = refl

-- with two places it is made, with one it is not
pub case_a_made : (list_refusal case_a 2 ≡ 0) × (list_refusal case_a 1 ≡ 17)
unfolding case_a record_words run_words lists refusals good_count list_refusal
case_a_made = (refl, refl)

-- index 2 is V 6, and there is no index 3
pub index_two : (tell_refusal list_a 2 ≡ 0) × ((the_model (holds_index 2) list_a).voxels ≡ true) × ((the_model (holds_index 2) list_a).structure ≡ 6)
    × (tell_refusal list_a 3 ≡ 19)
unfolding list_a run_words lists refusals ask_words tell_refusal
index_two = (refl, refl, refl, refl)

-- the record of vertex 1 is the second of its own stretch, which begins at 0
pub vertex_one : (seek_refusal list_a case_a (record_of (on_surface 18 1)) ≡ 0)
    × (own_stretch list_a case_a (record_of (on_surface 18 1)) ≡ record_of (on_surface 18 4) ∷ record_of (on_surface 18 1) ∷ [])
unfolding case_a list_a record_words run_words lists refusals ask_words seek_refusal
vertex_one = (refl, refl)
