-- RUNS IN AN ARRAY, and what is made of records. Assumes nothing.
use Rattle.std.specs.Prelude.{◌≡◌, true, false, cond, not, ◌&&◌, List, [], ◌∷◌, ℕ, zero, suc, ◌+◌, ◌%◌, ◌≤◌, ◌<◌, eqb, leb, get_or, set, length, take, map}
use Rattle.std.specs.Prelude.{Result, Ok, Err}
use Rattle.lists.specs.Lists.{all}
use Rattle.lists.specs.Refusals.{◌when◌, first}
use Rattle.records.specs.Record.{legal_record}
use Rattle.shortlist.specs.Faults.{list_fault_number}
use Rattle.shortlist.specs.Runs.{kind_of, kind_in, runs, comes_back}
use Rattle.shortlist.specs.Making.{list_refusal}
use Rattle.shortlist.specs.Asking.{no_model}
use Rattle.shortlist.specs.declared.answer.Model.{Model}
use Rattle.shortlist.specs.declared.answer.ListFault.{ListFault}
use Rattle.shortlist.specs.declared.state.Made.{Made}

-- the runs that an array holds
abbrev pub made_models : Made → List Model
made_models made = take made.count made.models

-- the i-th of them
abbrev pub model_at : Made → ℕ → Model
model_at made i = get_or made.models i no_model

-- the first n entries are those of f, the others as they were
abbrev pub entries_filled : ℕ → (ℕ → Model) → List Model → List Model
entries_filled zero f l = l
entries_filled (suc n) f l = set (entries_filled n f l) n (f n)

-- no runs, and a refusal
abbrev pub refused_by : ListFault → Result Made ListFault
refused_by e = Err e

-- one run more
abbrev pub with_run : Made → (at size kind : ℕ) → Made
with_run made at n k = record {
  count = made.count + 1;
  models = set made.models made.count (record { first = record { 0 = at }; count = n; voxels = leb 32 k; structure = k % 32 });
}

pub record MadeSized (made : Made) : Type 0 where
  pub first_64 : length (map (λ m. m.first.0) made.models) ≡ 64
  pub length_64 : length (map (λ m. m.count) made.models) ≡ 64
  pub kind_64 : length (map kind_in made.models) ≡ 64

-- the records from a place on are legal and of the kind, up to an end
pub record RunEnd (rs : List ℕ) (from kind to : ℕ) : Type 0 where
  pub behind : from ≤ to
  pub inside : from ≤ length rs → to ≤ length rs
  pub legal : (j : ℕ) → from ≤ j → j < to → legal_record (get_or rs j 0) ≡ true
  pub same : (j : ℕ) → from ≤ j → j < to → kind_of (get_or rs j 0) ≡ kind
  pub stops : to < length rs → (legal_record (get_or rs to 0) && eqb (kind_of (get_or rs to 0)) kind) ≡ false

-- the number of an answer, and the runs that were made
abbrev pub made_number : Result Made ListFault → ℕ
made_number (Ok made) = 0
made_number (Err e) = list_fault_number e

abbrev pub made_count : Result Made ListFault → ℕ
made_count (Ok made) = made.count
made_count (Err e) = 0

-- the runs of records, in an array that holds them all
pub record HoldsRuns (rs : List ℕ) (made : Made) : Type 0 where
  pub holding : made_models made ≡ runs rs
  pub few : made.count ≤ 64
  pub array_64 : length made.models ≡ 64

-- the runs of the records, or the refusal 16 or 26
pub record RunsOf (rs : List ℕ) (answer : Result Made ListFault) : Type 0 where
  pub numbered : made_number answer ≡ first (16 when not (all legal_record rs) ∷ 26 when comes_back rs ∷ [])
  pub holding : (made : Made) → answer ≡ Ok made → HoldsRuns rs made

-- the runs of the records in so many places, or the refusal
pub record MadeOf (rs : List ℕ) (room : ℕ) (answer : Result Made ListFault) : Type 0 where
  pub numbered : made_number answer ≡ list_refusal rs room
  pub holding : (made : Made) → answer ≡ Ok made → HoldsRuns rs made
  pub fit : (made : Made) → answer ≡ Ok made → made.count ≤ room

-- the answer of its number and count
unfoldable pub list_answer : (number count : ℕ) → Result ℕ ListFault
list_answer n c =
    cond (eqb n 15) (Err ListFault.BadCount)
    (cond (eqb n 16) (Err ListFault.BadRecord)
    (cond (eqb n 26) (Err ListFault.Parted) (cond (eqb n 17) (Err ListFault.TooShort) (Ok c))))
