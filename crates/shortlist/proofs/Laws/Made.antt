-- WHAT IS MADE OF THE RECORDS: the order 15, 16, 26, 17, and the list lent as it is filled. Assumes nothing.
use Rattle.std.specs.Prelude.{◌≡◌, List, [], ◌∷◌, ◌++◌, Bool, cond, ℕ, zero, suc, ◌<◌, ◌≤◌, leb, length, get_or, set, take, drop, Result, Ok, Err}
use Rattle.std.proofs.Math.Path.{refl, sym}
use Rattle.std.proofs.Common.{ap, ◌∙◌, ◌⊎◌, inl, inr, arith, length-take-le, drop-cons}
use Rattle.std.proofs.Math.Bool.{true, false, not}
use Rattle.std.proofs.Math.Dec.{eqb, ltb}
use Rattle.std.proofs.lemmas.List.{set_at}
use Rattle.std.proofs.Math.Seq.{append_snoc, take-suc}
use borrow.Author.Tests.{lt-ltb, le-ltb, ne_eqb, le-leb, lt-leb}
use Rattle.lists.specs.Lists.{all, tabulated, count_up}
use Rattle.lists.specs.Refusals.{◌when◌, first, NoneApplies, positive}
use Rattle.lists.proofs.Laws.Booleans.{and_no, and_both}
use Rattle.lists.proofs.Laws.Refusals.{given_none, row_fails, rows_behind}
use Rattle.lists.proofs.Laws.Tables.{size_of_table}
use Rattle.records.specs.Outcome.{ends, applies, passes, gives_first}
use Rattle.records.specs.Record.{legal_record}
use Rattle.records.specs.Sheet.{good_count}
use Rattle.shortlist.specs.Faults.{list_fault_number}
use Rattle.shortlist.specs.Runs.{runs, comes_back, laid}
use Rattle.shortlist.specs.Making.{list_refusal, Lists}
use Rattle.shortlist.specs.Asking.{no_model}
use Rattle.shortlist.specs.Made.{model_at, made_models, entries_filled, list_answer, HoldsRuns, RunsOf, MadeOf}
use Rattle.shortlist.proofs.Laws.Runs.{table_snoc}
use Rattle.shortlist.specs.declared.answer.Model.{Model}
use Rattle.shortlist.specs.declared.answer.ListFault.{ListFault}
use Rattle.shortlist.specs.declared.state.Made.{Made}

-- no fault has the number 0
pub fault_not_0 : (e : ListFault) → list_fault_number e ≡ 0 → ⊥
fault_not_0 ListFault.BadCount h = omega arith
fault_not_0 ListFault.BadRecord h = omega arith
fault_not_0 ListFault.Parted h = omega arith
fault_not_0 ListFault.TooShort h = omega arith

refused : {rs : List ℕ} {room : ℕ} (e : ListFault) → list_fault_number e ≡ list_refusal rs room → MadeOf rs room (Err e)
refused e h = record {
  numbered = h;
  holding = λ m q. absurd (let z : ⊥ = cc in z);
  fit = λ m q. absurd (let z : ⊥ = cc in z);
}

-- an array that holds the runs holds as many as it counts
pub runs_counted : {rs : List ℕ} {made : Made} → HoldsRuns rs made → made.count ≡ length (runs rs)
runs_counted {rs} {made} h = sym (length-take-le made.count made.models (omega (arith, h.few, h.array_64))) ∙ ap length h.holding

module _ (rs : List ℕ) (room : ℕ) where
  pub bad_count : good_count (length rs) ≡ false → MadeOf rs room (Err ListFault.BadCount)
  unfolding list_refusal
  bad_count h = refused ListFault.BadCount (sym (gives_first (applies (ap not h))))

  module _ (good : good_count (length rs) ≡ true) where
    -- what was refused before 17 stays refused
    pub kept : (e : ListFault) → RunsOf rs (Err e) → MadeOf rs room (Err e)
    unfolding list_refusal first
    kept e o = refused e (go (all legal_record rs) (comes_back rs) o.numbered)
      where
        go : (a b : Bool) → list_fault_number e ≡ first (16 when not a ∷ 26 when b ∷ [])
            → list_fault_number e
            ≡ first (15 when not (good_count (length rs)) ∷ 16 when not a ∷ 26 when b ∷ 17 when ltb room (length (runs rs)) ∷ [])
        go false b h = h ∙ sym (ap (λ t. first (15 when not t ∷ 16 when true ∷ 26 when b ∷ 17 when ltb room (length (runs rs)) ∷ []))
            good)
        go true true h = h ∙ sym (ap (λ t. first (15 when not t ∷ 16 when false ∷ 26 when true ∷ 17 when ltb room (length (runs rs)) ∷
            [])) good)
        go true false h = absurd (fault_not_0 e h)

    module _ (made : Made) (o : RunsOf rs (Ok made)) where
      -- nothing is refused: the rows behind 15 fail
      clear : NoneApplies (16 when not (all legal_record rs) ∷ 26 when comes_back rs ∷ [])
      unfolding positive
      clear = given_none (16 when not (all legal_record rs) ∷ 26 when comes_back rs ∷ []) refl (sym o.numbered)

      counted : made.count ≡ length (runs rs)
      counted = runs_counted (o.holding made refl)

      pub too_short : room < made.count → MadeOf rs room (Err ListFault.TooShort)
      unfolding list_refusal
      too_short h =
          refused ListFault.TooShort
          (sym (gives_first
          (passes (ap not good)
          (passes (row_fails clear) (passes (row_fails (rows_behind clear))
          (applies (lt-ltb room (length (runs rs)) (omega (arith, counted)))))))))

      pub made_as_it_is : made.count ≤ room → MadeOf rs room (Ok made)
      unfolding list_refusal
      made_as_it_is h = record {
        numbered =
            sym (gives_first
            (passes (ap not good)
            (passes (row_fails clear) (passes (row_fails (rows_behind clear))
            (passes (le-ltb room (length (runs rs)) (omega (arith, counted))) ends)))));
        holding = o.holding;
        fit = λ m e. let same : made.count ≡ m.count = cc in omega arith;
      }

-- ---- The same, as code meets it.

count_no : (n : ℕ) → (n < 1) ⊎ ((1 ≤ n) × (1048576 < n)) → good_count n ≡ false
unfolding good_count
count_no n (inl h) = rw (lt-leb 1 n h)
count_no n (inr (h, k)) = and_no (leb 1 n) (leb n 1048576) (lt-leb n 1048576 k)

count_yes : (n : ℕ) → 1 ≤ n → n ≤ 1048576 → good_count n ≡ true
unfolding good_count
count_yes n h k = and_both (le-leb 1 n h) (le-leb n 1048576 k)

module _ (rs : List ℕ) (room : ℕ) where
  pub stops_count : (length rs < 1) ⊎ ((1 ≤ length rs) × (1048576 < length rs)) → MadeOf rs room (Err ListFault.BadCount)
  stops_count h = bad_count rs room (count_no (length rs) h)

  module _ (h : 1 ≤ length rs) (k : length rs ≤ 1048576) where
    pub stops_refused : (e : ListFault) → RunsOf rs (Err e) → MadeOf rs room (Err e)
    stops_refused e o = kept rs room (count_yes (length rs) h k) e o

    pub stops_short : (made : Made) → RunsOf rs (Ok made) → room < made.count → MadeOf rs room (Err ListFault.TooShort)
    stops_short made o s = too_short rs room (count_yes (length rs) h k) made o s

    pub made_whole : (made : Made) → RunsOf rs (Ok made) → made.count ≤ room → MadeOf rs room (Ok made)
    made_whole made o s = made_as_it_is rs room (count_yes (length rs) h k) made o s

pub ruleset making = (stops_count, stops_refused, stops_short, made_whole)

-- ---- The list lent.

-- filled entry by entry is laid over its start
pub filled_laid : (n : ℕ) (f : ℕ → Model) (l : List Model) → n ≤ length l → entries_filled n f l ≡ tabulated n f ++ drop n l
unfolding tabulated count_up
filled_laid zero f l h = refl
filled_laid (suc n) f l h =
    let d = drop-cons l n no_model h in
    let e = filled_laid n f l (omega arith) ∙ ap (λ r. tabulated n f ++ r) d in
    ap (λ r. set r n (f n)) e
    ∙ set_at (tabulated n f) (get_or l n no_model) (drop (suc n) l) (f n) n (size_of_table f n)
    ∙ sym (append_snoc (tabulated n f) (f n) (drop (suc n) l))
    ∙ ap (λ r. r ++ drop (suc n) l) (sym (table_snoc f n))

module _ (rs : List ℕ) (before : List Model) where
  pub lists_refused : (e : ListFault) → MadeOf rs (length before) (Err e) → Lists rs before (Err e) before
  lists_refused e o =
      let z : eqb (list_fault_number e) 0 ≡ false = ne_eqb (list_fault_number e) 0 (fault_not_0 e) in
      record {
        numbered = o.numbered;
        counted = sym (ap (λ b. cond b (length (runs rs)) 0) z);
        holds = sym (ap (λ b. cond b (laid (runs rs) before) before) z);
      }

  -- what was made, laid over the start of the list lent, is what is promised
  pub lists_made : (after : List Model) (made : Made) → MadeOf rs (length before) (Ok made)
      → after ≡ made_models made ++ drop made.count before → Lists rs before (Ok made.count) after
  unfolding laid
  lists_made after made o e =
      let h = o.holding made refl in
      let c = runs_counted h in
      record {
        numbered = o.numbered;
        counted = c;
        holds = e ∙ ap (λ l. l ++ drop made.count before) h.holding ∙ ap (λ n. runs rs ++ drop n before) c;
      }

-- the runs that an array holds, one by one
table_is : (l : List Model) (n : ℕ) → n ≤ length l → tabulated n (λ i. get_or l i no_model) ≡ take n l
unfolding tabulated count_up
table_is l zero h = refl
table_is l (suc n) h =
    table_snoc (λ i. get_or l i no_model) n ∙ ap (λ r. r ++ (get_or l n no_model ∷ [])) (table_is l n (omega arith))
    ∙ sym (take-suc l n no_model h)

pub runs_table : {rs : List ℕ} {made : Made} → HoldsRuns rs made → tabulated made.count (model_at made) ≡ runs rs
runs_table {rs} {made} h = table_is made.models made.count (omega (arith, h.few, h.array_64)) ∙ h.holding

-- what was made, filled into the list lent
pub lists_filled : (rs : List ℕ) (before after : List Model) (made : Made) → MadeOf rs (length before) (Ok made)
    → after ≡ entries_filled made.count (model_at made) before → Lists rs before (Ok made.count) after
lists_filled rs before after made o e =
    let h = o.holding made refl in
    lists_made rs before after made o
    (e ∙ filled_laid made.count (model_at made) before (o.fit made refl)
    ∙ ap (λ l. l ++ drop made.count before) (runs_table h ∙ sym h.holding))

-- ---- The answer, by its number.

module _ (n c : ℕ) where
  pub listed_15 : n ≡ 15 → Err ListFault.BadCount ≡ list_answer n c
  unfolding list_answer
  listed_15 h = sym (rw h)

  pub listed_16 : n ≡ 16 → Err ListFault.BadRecord ≡ list_answer n c
  unfolding list_answer
  listed_16 h = sym (rw h)

  pub listed_26 : n ≡ 26 → Err ListFault.Parted ≡ list_answer n c
  unfolding list_answer
  listed_26 h = sym (rw h)

  pub listed_17 : n ≡ 17 → Err ListFault.TooShort ≡ list_answer n c
  unfolding list_answer
  listed_17 h = sym (rw h)

  pub listed_0 : (n ≡ 15 → ⊥) → (n ≡ 16 → ⊥) → (n ≡ 26 → ⊥) → (n ≡ 17 → ⊥) → Ok c ≡ list_answer n c
  unfolding list_answer
  listed_0 p q r s = sym (rw (ne_eqb n 15 p, ne_eqb n 16 q, ne_eqb n 26 r, ne_eqb n 17 s))

pub ruleset listing = (listed_15, listed_16, listed_26, listed_17, listed_0)
