-- THE SHORT LIST AS PLAIN NUMBERS, four a model: first index, count, type (0 surface, 1 voxels) and structure. Assumes nothing.
use Rattle.std.specs.Prelude.{◌≡◌, Bool, true, false, cond, ◌&&◌, List, [], ◌∷◌, ℕ, ◌+◌, ◌*◌, ◌/◌, ◌%◌, eqb, leb, length, get_or}
use Rattle.std.specs.Prelude.{Result, Err}
use Rattle.lists.specs.Lists.{all_below, each_in, tabulated}
use Rattle.records.specs.Fill.{wrote}
use Rattle.records.specs.Outcome.{unless}
use Rattle.records.specs.declared.counters.Index.{Index}
use Rattle.shortlist.specs.Runs.{runs}
use Rattle.shortlist.specs.Making.{list_refusal, listed_number, listed_count}
use Rattle.shortlist.specs.Asking.{Tells, Seeks}
use Rattle.shortlist.specs.Search.{next_of, folded}
use Rattle.shortlist.specs.declared.answer.Model.{Model}
use Rattle.shortlist.specs.declared.answer.Told.{Told}
use Rattle.shortlist.specs.declared.answer.ListFault.{ListFault}
use Rattle.shortlist.specs.declared.answer.SearchFault.{SearchFault}
use Rattle.shortlist.specs.declared.state.Search.{Search}

-- the numbers of a model, and of models in a row
abbrev pub four : Model → List ℕ
four m = m.first.0 ∷ m.count ∷ cond m.voxels 1 0 ∷ m.structure ∷ []

unfoldable pub numbers_of : List Model → List ℕ
numbers_of ms = each_in four ms

-- the i-th model of a list of numbers, and all of them
abbrev pub model_in : List ℕ → ℕ → Model
model_in l i = record {
  first = record { 0 = get_or l (4 * i) 0 };
  count = get_or l (4 * i + 1) 0;
  voxels = eqb (get_or l (4 * i + 2) 0) 1;
  structure = get_or l (4 * i + 3) 0;
}

unfoldable pub models_in : List ℕ → List Model
models_in l = tabulated (length l / 4) (model_in l)

-- whole models, and no type above 1
unfoldable pub good_numbers : List ℕ → Bool
good_numbers l = eqb (length l % 4) 0 && all_below (length l / 4) (λ i. leb (get_or l (4 * i + 2) 0) 1)

-- making: the value is how many models there are; `before` and `after` are the list lent
pub record ListsNumbers (rs before : List ℕ) (answer : Result ℕ ListFault) (after : List ℕ) : Type 0 where
  pub numbered : listed_number answer ≡ list_refusal rs (length before / 4)
  pub counted : listed_count answer ≡ unless (listed_number answer) (length (runs rs)) 0
  pub holds : after ≡ unless (listed_number answer) (wrote 0 (numbers_of (runs rs)) before) before

-- asking, entry by entry: what has been seen of the models at the end; numbers that are no models are a bad list
pub record Seen (l : List ℕ) (start : Search) (end : Result Search SearchFault) : Type 0 where
  pub bad : good_numbers l ≡ false → end ≡ Err SearchFault.BadList
  pub good : good_numbers l ≡ true → end ≡ folded next_of start (models_in l)

-- asking: numbers that are no models are a bad list, and else what the models say
pub record TellsNumbers (l : List ℕ) (n : ℕ) (answer : Result Told SearchFault) : Type 0 where
  pub bad : good_numbers l ≡ false → answer ≡ Err SearchFault.BadList
  pub good : good_numbers l ≡ true → Tells (models_in l) n answer

pub record SeeksNumbers (l rs : List ℕ) (x : ℕ) (answer : Result Index SearchFault) : Type 0 where
  pub bad : good_numbers l ≡ false → answer ≡ Err SearchFault.BadList
  pub good : good_numbers l ≡ true → Seeks (models_in l) rs x answer
