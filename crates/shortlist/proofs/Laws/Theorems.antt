-- A LIST THAT WAS MADE OF RECORDS: it is not bad, its ranges end at the number of records, it tells each record's type and structure, and
-- it finds each record where `find` does. Assumes nothing.
use Rattle.std.specs.Prelude.{◌≡◌, refl, List, [], ◌∷◌, Bool, cond, ◌||◌, ℕ, zero, suc, ◌+◌, ◌%◌, ◌<◌, ◌≤◌, eqb, leb, ltb, length, get_or}
use Rattle.std.specs.Prelude.{Result, Ok, Err}
use Rattle.std.proofs.Math.Path.{sym}
use Rattle.std.proofs.Common.{ap, ◌∙◌, subst, arith, eqb-true, eq-eqb, ne_eqb, le-leb, lt-ltb, le-ltb, leb-true}
use Rattle.std.proofs.Math.Bool.{true, false, not}
use Rattle.std.proofs.lemmas.Bool.{not-false}
use Rattle.lists.specs.Lists.{all, any, total}
use Rattle.lists.specs.Refusals.{◌when◌, positive}
use Rattle.lists.proofs.Laws.Booleans.{or_neither, or_second, and_both, and_left, and_no}
use Rattle.lists.proofs.Laws.Refusals.{given_none, row_fails, rows_behind}
use Rattle.records.specs.Record.{is_voxel, structure_of, legal_record}
use Rattle.records.specs.Outcome.{ends, applies, passes, gives_first}
use Rattle.records.specs.Sheet.{good_count}
use Rattle.shortlist.specs.Runs.{most_structure, kind_of, kind_in, alone, longer, runs_on, runs_from, runs}
use Rattle.shortlist.specs.Runs.{comes_back}
use Rattle.shortlist.specs.Making.{list_refusal}
use Rattle.shortlist.specs.Asking.{empty, no_structure, past_end, runs_on_from, bad_list, holds_index, the_model}
use Rattle.shortlist.specs.Asking.{tell_refusal, Tells}
use Rattle.shortlist.proofs.Laws.Runs.{kind_parts, structure_small}
use Rattle.shortlist.proofs.Laws.Search.{the_cons}
use Rattle.shortlist.proofs.Laws.Unique.{told_unique}
use Rattle.shortlist.specs.declared.answer.Model.{Model}
use Rattle.shortlist.specs.declared.answer.Told.{Told}
use Rattle.shortlist.specs.declared.answer.SearchFault.{SearchFault}

-- what follows from a list that was made
pub record WasMade (rs : List ℕ) : Type 0 where
  pub some_records : 1 ≤ length rs
  pub legal : all legal_record rs ≡ true
  pub apart : comes_back rs ≡ false

pub was_made : (rs : List ℕ) (room : ℕ) → list_refusal rs room ≡ 0 → WasMade rs
unfolding list_refusal positive good_count
was_made rs room h =
    let n = given_none
    (15 when not (good_count (length rs)) ∷ 16 when not (all legal_record rs) ∷ 26 when comes_back rs ∷ 17 when ltb room (length (runs rs))
    ∷ [])
    refl h in
    let c = not-false (good_count (length rs)) (row_fails n) in
    record {
      some_records = leb-true 1 (length rs) (and_left (leb 1 (length rs)) _ c);
      legal = not-false (all legal_record rs) (row_fails (rows_behind n));
      apart = row_fails (rows_behind (rows_behind n));
    }

-- ---- The run m and those behind it. One step of each law: the run goes on, or another begins.

module _ (P : List Model → Type 0) (m : Model) (r : ℕ) (rs : List ℕ) where
  step : P (runs_on (longer m) rs) → P (m ∷ runs_on (alone (m.first.0 + m.count) r) rs) → P (runs_on m (r ∷ rs))
  unfolding runs_on
  step f g = by (eqb (kind_of r) (kind_in m))
    where
      by : (b : Bool) → P (cond b (runs_on (longer m) rs) (m ∷ runs_on (alone (m.first.0 + m.count) r) rs))
      by true = f
      by false = g

none_empty : (rs : List ℕ) (m : Model) → 1 ≤ m.count → any empty (runs_on m rs) ≡ false
unfolding any empty runs_on
none_empty [] m h = or_neither (ne_eqb m.count 0 (λ z. omega arith)) refl
none_empty (r ∷ rs) m h =
    step (λ l. any empty l ≡ false) m r rs (none_empty rs (longer m) (omega arith))
    (or_neither (ne_eqb m.count 0 (λ z. omega arith)) (none_empty rs (alone (m.first.0 + m.count) r) (omega arith)))

runs_on_lem : (rs : List ℕ) (m : Model) → runs_on_from m.first.0 (runs_on m rs) ≡ true
unfolding runs_on_from runs_on
runs_on_lem [] m = and_both (eq-eqb m.first.0 m.first.0 refl) refl
runs_on_lem (r ∷ rs) m =
    step (λ l. runs_on_from m.first.0 l ≡ true) m r rs (runs_on_lem rs (longer m))
    (and_both (eq-eqb m.first.0 m.first.0 refl) (runs_on_lem rs (alone (m.first.0 + m.count) r)))

all_structures : (rs : List ℕ) (m : Model) → m.structure ≤ most_structure → any no_structure (runs_on m rs) ≡ false
unfolding any no_structure runs_on
all_structures [] m h = or_neither (le-ltb most_structure m.structure h) refl
all_structures (r ∷ rs) m h =
    step (λ l. any no_structure l ≡ false) m r rs (all_structures rs (longer m) h)
    (or_neither (le-ltb most_structure m.structure h) (all_structures rs (alone (m.first.0 + m.count) r) (structure_small r)))

-- none reaches past the end, and the counts are as many as the records
ends_there : (rs : List ℕ) (m : Model) (n : ℕ) → m.first.0 + m.count + length rs ≤ n → any (past_end n) (runs_on m rs) ≡ false
unfolding any past_end runs_on
ends_there [] m n h = or_neither (le-ltb n (m.first.0 + m.count) (omega arith)) refl
ends_there (r ∷ rs) m n h =
    step (λ l. any (past_end n) l ≡ false) m r rs (ends_there rs (longer m) n (omega arith))
    (or_neither (le-ltb n (m.first.0 + m.count) (omega arith)) (ends_there rs (alone (m.first.0 + m.count) r) n (omega arith)))

counts : (rs : List ℕ) (m : Model) → total (λ n. n.count) (runs_on m rs) ≡ m.count + length rs
unfolding total runs_on
counts [] m = omega arith
counts (r ∷ rs) m =
    let a = counts rs (longer m) in
    let b = counts rs (alone (m.first.0 + m.count) r) in
    step (λ l. total (λ n. n.count) l ≡ m.count + length (r ∷ rs)) m r rs (omega arith) (omega arith)

-- LIST-GOOD: a list that was made is not bad, does not reach past the records, and its counts are as many
pub record Good (rs : List ℕ) : Type 0 where
  pub not_bad : bad_list (runs rs) ≡ false
  pub not_past : any (past_end (length rs)) (runs rs) ≡ false
  pub whole : total (λ m. m.count) (runs rs) ≡ length rs

pub list_good : (rs : List ℕ) → WasMade rs → Good rs
unfolding runs runs_from bad_list comes_back
list_good [] h = absurd (let u = h.some_records in omega arith)
list_good (r ∷ rs) h = record {
  not_bad =
      or_neither (none_empty rs (alone 0 r) (omega arith))
      (or_neither (ap not (runs_on_lem rs (alone 0 r))) (or_neither h.apart (all_structures rs (alone 0 r) (structure_small r))));
  not_past = ends_there rs (alone 0 r) (length (r ∷ rs)) (omega arith);
  whole = let e = counts rs (alone 0 r) in omega arith;
}

-- ---- The type and structure at an index.

-- an entry that holds the index is there, and it has this type and structure
pub record HeldAs (n : ℕ) (v : Bool) (s : ℕ) (l : List Model) : Type 0 where
  pub there : any (holds_index n) l ≡ true
  pub voxels : (the_model (holds_index n) l).voxels ≡ v
  pub structure : (the_model (holds_index n) l).structure ≡ s
  pub holds : holds_index n (the_model (holds_index n) l) ≡ true

held_here : (n : ℕ) (m : Model) (l : List Model) → holds_index n m ≡ true → HeldAs n m.voxels m.structure (m ∷ l)
unfolding any
held_here n m l h =
    let t : the_model (holds_index n) (m ∷ l) ≡ m = the_cons (holds_index n) m l ∙ ap (λ b. cond b m (the_model (holds_index n) l)) h in
    record {
      there = ap (λ b. b || any (holds_index n) l) h;
      voxels = ap (λ k. k.voxels) t;
      structure = ap (λ k. k.structure) t;
      holds = ap (holds_index n) t ∙ h;
    }

held_behind : (n : ℕ) (v : Bool) (s : ℕ) (m : Model) (l : List Model) → holds_index n m ≡ false → HeldAs n v s l → HeldAs n v s (m ∷ l)
unfolding any
held_behind n v s m l h k =
    let t : the_model (holds_index n) (m ∷ l) ≡ the_model (holds_index n) l = the_cons (holds_index n) m l
    ∙ ap (λ b. cond b m (the_model (holds_index n) l)) h
    in
    record {
      there = or_second (holds_index n m) k.there;
      voxels = ap (λ k. k.voxels) t ∙ k.voxels;
      structure = ap (λ k. k.structure) t ∙ k.structure;
      holds = ap (holds_index n) t ∙ k.holds;
    }

in_range_lem : (n : ℕ) (m : Model) → m.first.0 ≤ n → n < m.first.0 + m.count → holds_index n m ≡ true
unfolding holds_index
in_range_lem n m h k = and_both (le-leb m.first.0 n h) (lt-ltb n (m.first.0 + m.count) k)

behind_it : (n : ℕ) (m : Model) → m.first.0 + m.count ≤ n → holds_index n m ≡ false
unfolding holds_index
behind_it n m h = and_no (leb m.first.0 n) (ltb n (m.first.0 + m.count)) (le-ltb n (m.first.0 + m.count) h)

-- the index lies in the run m
held_in : (rs : List ℕ) (m : Model) (n : ℕ) → m.first.0 ≤ n → n < m.first.0 + m.count → HeldAs n m.voxels m.structure (runs_on
    m rs)
unfolding runs_on
held_in [] m n h k = held_here n m [] (in_range_lem n m h k)
held_in (r ∷ rs) m n h k =
    step (HeldAs n m.voxels m.structure) m r rs (held_in rs (longer m) n h (omega arith))
    (held_here n m (runs_on (alone (m.first.0 + m.count) r) rs) (in_range_lem n m h k))

-- a record of the run's kind has its type and structure
same_parts : (r : ℕ) (m : Model) → m.structure ≤ most_structure → kind_of r ≡ kind_in m → (m.voxels ≡ is_voxel r) × (m.structure ≡
    structure_of r)
unfolding kind_of kind_in
same_parts r m h e =
    let (a, b) = kind_parts (is_voxel r) (structure_of r) (structure_small r) in
    let (c, d) = kind_parts m.voxels m.structure h in
    (sym c ∙ ap (λ k. leb 32 k) (sym e) ∙ a, sym d ∙ ap (λ k. k % 32) (sym e) ∙ b)

-- the index lies j records behind the run m
held_at : (rs : List ℕ) (m : Model) (j : ℕ) → m.structure ≤ most_structure → j < length rs
    → HeldAs (m.first.0 + m.count + j) (is_voxel (get_or rs j 0)) (structure_of (get_or rs j 0)) (runs_on m rs)
unfolding runs_on
held_at [] m j s h = absurd (omega arith)
held_at (r ∷ rs) m j s h =
    by (eqb (kind_of r) (kind_in m)) refl j h (held_at rs (longer m)) (held_at rs (alone (m.first.0 + m.count) r))
  where
    by : (b : Bool) → eqb (kind_of r) (kind_in m) ≡ b → (j : ℕ) → j < suc (length rs)
        → ((j : ℕ) → m.structure ≤ most_structure → j < length rs
        → HeldAs (m.first.0 + (m.count + 1) + j) (is_voxel (get_or rs j 0)) (structure_of (get_or rs j 0)) (runs_on (longer m) rs))
        → ((j : ℕ) → structure_of r ≤ most_structure → j < length rs
        → HeldAs (m.first.0 + m.count + 1 + j) (is_voxel (get_or rs j 0)) (structure_of (get_or rs j 0)) (runs_on (alone (m.first.0 + m.count) r) rs))
        → HeldAs (m.first.0 + m.count + j) (is_voxel (get_or (r ∷ rs) j 0)) (structure_of (get_or (r ∷ rs) j 0))
        (cond b (runs_on (longer m) rs) (m ∷ runs_on (alone (m.first.0 + m.count) r) rs))
    by true q zero u f g =
        let (v, w) = same_parts r m s (eqb-true (kind_of r) (kind_in m) q) in
        let k = held_in rs (longer m) (m.first.0 + m.count + 0) (omega arith) (omega arith) in
        record { there = k.there; voxels = k.voxels ∙ v; structure = k.structure ∙ w; holds = k.holds }
    by true q (suc j) u f g =
        let i : m.first.0 + (m.count + 1) + j ≡ m.first.0 + m.count + suc j = omega arith in
        subst (λ (n : ℕ). HeldAs n (is_voxel (get_or rs j 0)) (structure_of (get_or rs j 0)) (runs_on (longer m) rs)) i (f j s (omega arith))
    by false q zero u f g =
        held_behind (m.first.0 + m.count + 0) (is_voxel r) (structure_of r) m _ (behind_it (m.first.0 + m.count + 0) m (omega arith))
        (held_in rs (alone (m.first.0 + m.count) r) (m.first.0 + m.count + 0) (omega arith) (omega arith))
    by false q (suc j) u f g =
        let i : m.first.0 + m.count + 1 + j ≡ m.first.0 + m.count + suc j = omega arith in
        held_behind (m.first.0 + m.count + suc j) (is_voxel (get_or rs j 0)) (structure_of (get_or rs j 0)) m _
        (behind_it (m.first.0 + m.count + suc j) m (omega arith))
        (subst (λ (n : ℕ). HeldAs n (is_voxel (get_or rs j 0)) (structure_of (get_or rs j 0)) (runs_on (alone (m.first.0 + m.count) r) rs)) i
        (g j (structure_small r) (omega arith)))

held_none : (rs : List ℕ) (m : Model) (n : ℕ) → m.first.0 + m.count + length rs ≤ n → any (holds_index n) (runs_on m rs) ≡ false
unfolding any runs_on
held_none [] m n h = or_neither (behind_it n m (omega arith)) refl
held_none (r ∷ rs) m n h =
    step (λ l. any (holds_index n) l ≡ false) m r rs (held_none rs (longer m) n (omega arith))
    (or_neither (behind_it n m (omega arith)) (held_none rs (alone (m.first.0 + m.count) r) n (omega arith)))

-- each index is held as its record says, and from the end on none is
pub held_as : (rs : List ℕ) (n : ℕ) → n < length rs → HeldAs n (is_voxel (get_or rs n 0)) (structure_of (get_or rs n 0)) (runs rs)
unfolding runs runs_from
held_as [] n h = absurd (omega arith)
held_as (r ∷ rs) zero h = held_in rs (alone 0 r) 0 (omega arith) (omega arith)
held_as (r ∷ rs) (suc n) h =
    let e : 0 + 1 + n ≡ suc n = omega arith in
    subst (λ (i : ℕ). HeldAs i (is_voxel (get_or rs n 0)) (structure_of (get_or rs n 0)) (runs_on (alone 0 r) rs)) e
    (held_at rs (alone 0 r) n (structure_small r) (omega arith))

held_not : (rs : List ℕ) (n : ℕ) → length rs ≤ n → any (holds_index n) (runs rs) ≡ false
unfolding runs runs_from any
held_not [] n h = refl
held_not (r ∷ rs) n h = held_none rs (alone 0 r) n (omega arith)

-- what is told of a record
abbrev pub told_record : ℕ → Told
told_record r = record { voxels = is_voxel r; structure = structure_of r }

-- LIST-TELLS: of any answer that is allowed. At each index it is the type and structure of its record, and from the end on nothing
module _ (rs : List ℕ) (is_made : WasMade rs) (n : ℕ) (answer : Result Told SearchFault) (told : Tells (runs rs) n answer) where
  pub list_tells : n < length rs → answer ≡ Ok (told_record (get_or rs n 0))
  unfolding tell_refusal
  list_tells h =
      let k = held_as rs n h in
      let w : Tells (runs rs) n (Ok (told_record (get_or rs n 0))) = record {
        numbered = sym (gives_first (passes (list_good rs is_made).not_bad (passes (ap not k.there) ends)));
        voxels = sym k.voxels;
        structure = sym k.structure;
      } in
      told_unique (runs rs) n answer (Ok (told_record (get_or rs n 0))) told w

  pub list_tells_no_more : length rs ≤ n → answer ≡ Err SearchFault.NotFound
  unfolding tell_refusal
  list_tells_no_more h =
      let w : Tells (runs rs) n (Err SearchFault.NotFound) = record {
        numbered = sym (gives_first (passes (list_good rs is_made).not_bad (applies (ap not (held_not rs n h)))));
        voxels = refl;
        structure = refl;
      } in
      told_unique (runs rs) n answer (Err SearchFault.NotFound) told w
