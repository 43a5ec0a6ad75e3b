-- FOUR NUMBERS AFTER FOUR, as loops meet them. Assumes nothing.
use Rattle.std.specs.Prelude.{◌≡◌, refl, Bool, ◌&&◌, List, [], ◌∷◌, ◌++◌, ℕ, ◌+◌, ◌-◌, ◌*◌, ◌/◌, ◌%◌, ◌<◌, ◌≤◌, eqb, get_or, take}
use Rattle.std.specs.Prelude.{Result, Ok, Err}
use Rattle.std.proofs.Math.Path.{sym, ap}
use Rattle.std.proofs.Common.{◌∙◌, append_assoc, arith, add-one, le-leb, eq-eqb, ne_eqb, length-take-le}
use Rattle.std.proofs.Math.Bool.{true, false, cond}
use Rattle.std.proofs.Math.Dec.{leb}
use Rattle.std.proofs.Math.ListN.{length}
use Rattle.std.proofs.Math.Seq.{take-suc}
use Rattle.std.proofs.lemmas.Bool.{lt-leb}
use Rattle.std.proofs.lemmas.List.{take_all}
use Rattle.lists.specs.Lists.{all_below, each_in, count_up}
use Rattle.lists.proofs.Laws.Booleans.{and_right, and_both, both_ways}
use Rattle.lists.proofs.Laws.Quantifiers.{all_below_iff}
use Rattle.lists.proofs.Laws.Tables.{up_one, up_done, up_all}
use Rattle.records.specs.Fill.{wrote, wrote_none, wrote_on, length_wrote}
use Rattle.records.specs.Outcome.{unless, outcome}
use Rattle.records.specs.declared.outcome.Outcome.{Outcome}
use Rattle.records.specs.declared.counters.Index.{Index}
use Rattle.shortlist.specs.Faults.{list_fault_number}
use Rattle.shortlist.specs.Runs.{runs, kind_of}
use Rattle.shortlist.specs.Making.{list_refusal, listed_number, listed_count}
use Rattle.shortlist.specs.Asking.{no_model}
use Rattle.shortlist.specs.Made.{made_models, MadeOf}
use Rattle.shortlist.specs.Search.{begun, bad_entry, next_of, at_ok, folded, told_of, Finding}
use Rattle.shortlist.proofs.Laws.Search.{next_bad, next_good}
use Rattle.shortlist.proofs.Laws.Made.{fault_not_0, runs_counted}
use Rattle.shortlist.proofs.Laws.Answers.{tells_fault, tells_seen, seeks_fault, seeks_seen}
use Rattle.shortlist.specs.declared.answer.Model.{Model}
use Rattle.shortlist.specs.declared.answer.Told.{Told}
use Rattle.shortlist.specs.declared.answer.ListFault.{ListFault}
use Rattle.shortlist.specs.declared.answer.SearchFault.{SearchFault}
use Rattle.shortlist.specs.declared.state.Made.{Made}
use Rattle.shortlist.specs.declared.state.Search.{Search}
use Rattle.record_doors.specs.Numbers.{four, numbers_of, model_in, models_in, good_numbers}
use Rattle.record_doors.specs.Numbers.{Seen, ListsNumbers, TellsNumbers, SeeksNumbers}

-- ---- Asking.

-- what is seen from a state over the models from the i-th on
unfoldable pub from_here : List ℕ → Search → ℕ → Result Search SearchFault
from_here l s i = folded next_of s (count_up (model_in l) i (length l / 4 - i))

-- the i-th model, and then those behind it
from_next : (l : List ℕ) (s : Search) (m : Model) (i : ℕ) (r : Result Search SearchFault) → i < length l / 4 → m ≡ model_in l i
    → r ≡ next_of s m → from_here l s i ≡ at_ok r (λ t. from_here l t (i + 1))
unfolding from_here
from_next l s m i r h e f =
    ap (folded next_of s) (up_one (model_in l) i (length l / 4) h)
    ∙ ap (λ (x : Result Search SearchFault). at_ok x (λ t. from_here l t (i + 1))) (sym (f ∙ ap (next_of s) e))

-- an entry has no fault but that it makes the list bad
next_fault : (s : Search) (m : Model) (e : SearchFault) → Err e ≡ next_of s m → e ≡ SearchFault.BadList
next_fault s m e h = by (bad_entry s m) refl
  where
    by : (b : Bool) → bad_entry s m ≡ b → e ≡ SearchFault.BadList
    by true q = let z = next_bad s m q in cc
    by false q = let z = next_good s m q in cc

-- no type above 1 among the first
abbrev small : List ℕ → ℕ → Bool
small l i = leb (get_or l (4 * i + 2) 0) 1

pub record Taken (l : List ℕ) (u s : Search) (i : ℕ) : Type 0 where
  pub whole : length l % 4 ≡ 0
  pub inside : i ≤ length l / 4
  pub states : from_here l u 0 ≡ from_here l s i
  pub types : all_below i (small l) ≡ true

pub taken_none : (l : List ℕ) (u : Search) → length l % 4 ≡ 0 → Taken l u u 0
unfolding all_below
taken_none l u h = record { whole = h; inside = omega arith; states = refl; types = refl }

pub not_whole : (l : List ℕ) (u : Search) → (length l % 4 ≡ 0 → ⊥) → Seen l u (Err SearchFault.BadList)
unfolding good_numbers
not_whole l u h = record {
  bad = λ _. refl;
  good = λ g. both_ways g (ap (λ t. t && all_below (length l / 4) (λ i. leb (get_or l (4 * i + 2) 0) 1)) (ne_eqb (length l % 4) 0 h));
}

module _ {l : List ℕ} {u s : Search} {i : ℕ} (t : Taken l u s i) where
  pub type_above : i < length l / 4 → 1 < get_or l (4 * i + 2) 0 → Seen l u (Err SearchFault.BadList)
  unfolding good_numbers
  type_above h k = record {
    bad = λ _. refl;
    good = λ g.
        let all = and_right (eqb (length l % 4) 0) (all_below (length l / 4) (λ i. leb (get_or l (4 * i + 2) 0) 1)) g in
        both_ways ((all_below_iff (length l / 4) (λ i. leb (get_or l (4 * i + 2) 0) 1)).0 all i h) (lt-leb (get_or l (4 * i + 2) 0) 1 k);
  }

  module _ (m : Model) (h : i < length l / 4) (e : m ≡ model_in l i) where
    pub list_spoilt : (f : SearchFault) → Err f ≡ next_of s m → Seen l u (Err f)
    unfolding from_here models_in
    list_spoilt f k = record {
      bad = λ _. ap (λ (x : SearchFault). Err x) (next_fault s m f k);
      good = λ _. sym (ap (folded next_of u) (sym (up_all (model_in l) (length l / 4))) ∙ t.states ∙ from_next l s m i (Err f) h e k);
    }

    pub taken_one : (v : Search) → Ok v ≡ next_of s m → get_or l (4 * i + 2) 0 ≤ 1 → Taken l u v (i + 1)
    unfolding all_below
    taken_one v f k = record {
      whole = t.whole;
      inside = omega arith;
      states = t.states ∙ from_next l s m i (Ok v) h e f;
      types = ap (λ n. all_below n (small l)) (add-one i) ∙ and_both (le-leb (get_or l (4 * i + 2) 0) 1 k) t.types;
    }

  pub taken_all : length l / 4 ≤ i → Seen l u (Ok s)
  unfolding from_here models_in good_numbers
  taken_all h =
      let n : i ≡ length l / 4 = omega (arith, t.inside) in
      let all : all_below (length l / 4) (small l) ≡ true = ap (λ k. all_below k (small l)) (sym n) ∙ t.types in
      record {
        bad = λ z. both_ways (and_both (eq-eqb (length l % 4) 0 t.whole) all) z;
        good = λ _.
            sym (ap (folded next_of s) (up_done (model_in l) i (length l / 4) h)) ∙ sym t.states
            ∙ ap (folded next_of u) (up_all (model_in l) (length l / 4));
      }

-- ---- What is answered.

module _ (l : List ℕ) where
  pub tells_fault_numbers : (n : ℕ) (s : Search) (e : SearchFault) → s ≡ begun n 0 0 → Seen l s (Err e) → TellsNumbers l n (Err e)
  tells_fault_numbers n s e b w = record {
    bad = λ h. ap (λ (x : SearchFault). Err x) (let same : e ≡ SearchFault.BadList = (let z = w.bad h in cc) in same);
    good = λ h. tells_fault (models_in l) n 0 0 e (sym (w.good h ∙ ap (λ u. folded next_of u (models_in l)) b));
  }

  pub tells_seen_numbers : (n : ℕ) (s t : Search) (answer : Result Told SearchFault) → s ≡ begun n 0 0 → Seen l s (Ok t)
      → answer ≡ told_of t → TellsNumbers l n answer
  tells_seen_numbers n s t answer b w g = record {
    bad = λ h. absurd (let z = w.bad h in let no : ⊥ = cc in no);
    good = λ h. tells_seen (models_in l) n 0 0 t (sym (w.good h ∙ ap (λ u. folded next_of u (models_in l)) b)) answer g;
  }

  module _ (rs : List ℕ) (x : ℕ) (s : Search) (b : s ≡ begun 0 (kind_of x) (length rs)) where
    pub seeks_fault_numbers : (e : SearchFault) → Seen l s (Err e) → SeeksNumbers l rs x (Err e)
    seeks_fault_numbers e w = record {
      bad = λ h. ap (λ (y : SearchFault). Err y) (let same : e ≡ SearchFault.BadList = (let z = w.bad h in cc) in same);
      good = λ h. seeks_fault (models_in l) rs x e (sym (w.good h ∙ ap (λ u. folded next_of u (models_in l)) b));
    }

    pub seeks_seen_numbers : (t : Search) (answer : Result Index SearchFault) → Seen l s (Ok t) → Finding rs t x answer
        → SeeksNumbers l rs x answer
    seeks_seen_numbers t answer w g = record {
      bad = λ h. absurd (let z = w.bad h in let no : ⊥ = cc in no);
      good = λ h. seeks_seen (models_in l) rs x t (sym (w.good h ∙ ap (λ u. folded next_of u (models_in l)) b)) answer g;
    }

pub ruleset asking = (tells_fault_numbers, tells_seen_numbers, seeks_fault_numbers, seeks_seen_numbers)

-- ---- Making.

numbers_snoc : (ms : List Model) (m : Model) → numbers_of (ms ++ (m ∷ [])) ≡ numbers_of ms ++ four m
unfolding numbers_of each_in
numbers_snoc [] m = refl
numbers_snoc (n ∷ ms) m = ap (λ l. four n ++ l) (numbers_snoc ms m) ∙ sym (append_assoc (four n) (each_in four ms) (four m))

numbers_long : (ms : List Model) → length (numbers_of ms) ≡ 4 * length ms
unfolding numbers_of each_in
numbers_long [] = refl
numbers_long (m ∷ ms) = let h = numbers_long ms in omega arith

-- the first i models are written
pub written : List ℕ → List Model → ℕ → List ℕ
written l ms i = wrote 0 (numbers_of (take i ms)) l

pub written_none : (l : List ℕ) (ms : List Model) → l ≡ written l ms 0
unfolding written numbers_of each_in
written_none l ms = sym (wrote_none 0 l)

module _ (l k : List ℕ) (ms : List Model) (i : ℕ) (e : k ≡ written l ms i) (h : 4 * length ms ≤ length l) where
  taken_long : i ≤ length ms → length (numbers_of (take i ms)) ≡ 4 * i
  taken_long u = numbers_long (take i ms) ∙ ap (λ n. 4 * n) (length-take-le i ms u)

  pub written_long : i ≤ length ms → length k ≡ length l
  unfolding written
  written_long u = ap length e ∙ length_wrote 0 (numbers_of (take i ms)) l (omega (arith, taken_long u))

  -- the next four numbers fit
  pub fits_row : (row : List ℕ) (m : Model) → i < length ms → row ≡ four m → 4 * i + length row ≤ length k
  fits_row row m u f = omega (arith, written_long (omega arith), ap length f)

  pub written_next : (row j : List ℕ) (m : Model) → i < length ms → m ≡ get_or ms i no_model → row ≡ four m → j ≡ wrote (4 * i) row k
      → j ≡ written l ms (i + 1)
  unfolding written
  written_next row j m u q f g =
      g ∙ ap (λ r. wrote (4 * i) r k) (f ∙ ap four q) ∙ ap (λ s. wrote (4 * i) (four (get_or ms i no_model)) s) e
      ∙ wrote_on 0 (4 * i) (numbers_of (take i ms)) (four (get_or ms i no_model)) l (omega (arith, taken_long (omega arith)))
      (omega (arith, taken_long (omega arith)))
      ∙ ap (λ s. wrote 0 s l)
      (sym (numbers_snoc (take i ms) (get_or ms i no_model))
      ∙ ap numbers_of (sym (take-suc ms i no_model u) ∙ ap (λ n. take n ms) (sym (add-one i))))

  pub written_put : (row j : List ℕ) (m : Model) → i < length ms → m ≡ get_or ms i no_model → row ≡ four m
      → j ≡ cond (leb (4 * i + length row) (length k)) (wrote (4 * i) row k) k → j ≡ written l ms (i + 1)
  written_put row j m u q f g = written_next row j m u q f (rw (le-leb (4 * i + length row) (length k) (fits_row row m u f)) at g)

  pub written_all : length ms ≤ i → k ≡ wrote 0 (numbers_of ms) l
  unfolding written
  written_all u = e ∙ ap (λ s. wrote 0 (numbers_of s) l) (take_all i ms u)

-- the list stays as long
pub same_long : (l k : List ℕ) (ms : List Model) (i : ℕ) → k ≡ written l ms i → 4 * length ms ≤ length l → i ≤ length ms
    → length k ≡ length l
same_long l k ms i e h u = written_long l k ms i e h u

pub ruleset writing = (written_none, written_next, written_put, written_all, fits_row, written_long, same_long)

-- what was made and written is what is promised
module _ (rs before : List ℕ) where
  pub lists_numbers_fault : (e : ListFault) → MadeOf rs (length before / 4) (Err e) → ListsNumbers rs before (Err e) before
  lists_numbers_fault e o =
      let z : eqb (list_fault_number e) 0 ≡ false = ne_eqb (list_fault_number e) 0 (fault_not_0 e) in
      record {
        numbered = o.numbered;
        counted = sym (ap (λ b. cond b (length (runs rs)) 0) z);
        holds = sym (ap (λ b. cond b (wrote 0 (numbers_of (runs rs)) before) before) z);
      }

  pub lists_numbers : (after : List ℕ) (made : Made) → MadeOf rs (length before / 4) (Ok made)
      → after ≡ wrote 0 (numbers_of (made_models made)) before → ListsNumbers rs before (Ok made.count) after
  lists_numbers after made o e =
      let h = o.holding made refl in
      record { numbered = o.numbered; counted = runs_counted h; holds = e ∙ ap (λ l. wrote 0 (numbers_of l) before) h.holding }

-- number and value of an answer, as one outcome
pub answers : {rs before : List ℕ} {answer : Result ℕ ListFault} {after : List ℕ} → ListsNumbers rs before answer after
    → ◌≡◌ {A = Outcome} (record { number = listed_number answer; value = listed_count answer })
    (outcome (list_refusal rs (length before / 4)) (length (runs rs)))
answers {rs} w = λ i. record {
  number = w.numbered i;
  value = (w.counted ∙ ap (λ k. unless k (length (runs rs)) 0) w.numbered) i;
}
