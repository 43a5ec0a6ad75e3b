-- WHAT IS KNOWN OF THE FIRST ROW THAT APPLIES: by induction on the list of rows, so that a row more costs nothing.
use Rattle.std.specs.Prelude.{◌≡◌, refl, List, [], ◌∷◌, ◌++◌, Bool, true, false, ◌||◌, cond, ℕ, zero, suc, ◌≤◌, eqb, leb, ltb, drop}
use Rattle.std.proofs.Common.{sym, ap, arith, leb-true, ltb-true, eq-eqb, ne_eqb}
use Rattle.lists.proofs.Laws.Booleans.{and_left, and_right}
use Rattle.lists.specs.Refusals.{Refusal, ◌when◌, first, Applies, here, later, NoneApplies, none_left, passed, FirstOf, none_first}
use Rattle.lists.specs.Refusals.{this_first, positive, rising, EitherOf, no_rows, row, sooner_refusal}

-- ---- What is given.

-- the row given applies and no row before it does; or none applies and 0 is given
pub refusal_first : (l : List Refusal) → FirstOf l (first l)
unfolding first
refusal_first [] = none_first none_left
refusal_first (n when true ∷ l) = this_first [] l none_left refl
refusal_first (n when false ∷ l) = go (refusal_first l)
  where
    go : {m : ℕ} → FirstOf l m → FirstOf (n when false ∷ l) m
    go (none_first h) = none_first (passed h)
    go (this_first before rest h e) = this_first (n when false ∷ before) rest (passed h) (ap (λ k. n when false ∷ k) e)

-- row by row
pub first_row : (n : ℕ) (b : Bool) (l : List Refusal) → first (n when b ∷ l) ≡ cond b n (first l)
unfolding first
first_row n true l = refl
first_row n false l = refl

-- where no row applies 0 is given, and where 0 is given no row applies
pub none_given : {l : List Refusal} → NoneApplies l → first l ≡ 0
unfolding first
none_given none_left = refl
none_given (passed h) = none_given h

pub given_none : (l : List Refusal) → positive l ≡ true → first l ≡ 0 → NoneApplies l
unfolding first positive
given_none [] p h = none_left
given_none (n when true ∷ l) p h = absurd (let u = ltb-true 0 n (and_left (ltb 0 n) (positive l) p) in omega arith)
given_none (n when false ∷ l) p h = passed (given_none l (and_right (ltb 0 n) (positive l) p) h)

-- where none applies, a row of the list fails; the first, and those behind it
pub row_fails : {n : ℕ} {b : Bool} {l : List Refusal} → NoneApplies (n when b ∷ l) → b ≡ false
row_fails (passed h) = refl

pub rows_behind : {n : ℕ} {b : Bool} {l : List Refusal} → NoneApplies (n when b ∷ l) → NoneApplies l
rows_behind (passed h) = h

-- those behind the first n
pub rows_past : (n : ℕ) {l : List Refusal} → NoneApplies l → NoneApplies (drop n l)
rows_past zero h = h
rows_past (suc n) none_left = none_left
rows_past (suc n) (passed h) = rows_past n h

-- of two lists in a row
pub none_front : (l k : List Refusal) → NoneApplies (l ++ k) → NoneApplies l
none_front [] k h = none_left
none_front (n when b ∷ l) k (passed h) = passed (none_front l k h)

pub none_applies : {l : List Refusal} → NoneApplies l → (m : ℕ) → ¬ Applies l m
none_applies none_left m x3 = elim x3 [ ]
none_applies (passed h) m (later a) = none_applies h m a

-- ---- Two lists in a row.

pub first_none : {l : List Refusal} → NoneApplies l → (k : List Refusal) → first (l ++ k) ≡ first k
unfolding first
first_none none_left k = refl
first_none (passed h) k = first_none h k

pub first_append : (l k : List Refusal) → positive l ≡ true → first (l ++ k) ≡ cond (eqb (first l) 0) (first k) (first l)
unfolding first positive
first_append [] k p = refl
first_append (n when true ∷ l) k p = let u = ltb-true 0 n (and_left (ltb 0 n) (positive l) p) in
    sym (rw (ne_eqb n 0 (λ z. omega arith)) refl)
first_append (n when false ∷ l) k p = first_append l k (and_right (ltb 0 n) (positive l) p)

pub none_append : {l k : List Refusal} → NoneApplies l → NoneApplies k → NoneApplies (l ++ k)
none_append none_left j = j
none_append (passed h) j = passed (none_append h j)

-- the row given, and what stands behind it does not matter
pub first_kept : (l k : List Refusal) (n : ℕ) → (n ≡ 0 → ⊥) → first l ≡ n → first (l ++ k) ≡ n
unfolding first
first_kept [] k n z h = absurd (z (sym h))
first_kept (m when true ∷ l) k n z h = h
first_kept (m when false ∷ l) k n z h = first_kept l k n z h

-- ---- Numbers that rise.

-- the numbers that apply are n or above
pub above : (n : ℕ) (l : List Refusal) → rising n l ≡ true → (m : ℕ) → Applies l m → n ≤ m
unfolding rising
above n [] h m x'' = elim x'' [ ]
above n (k when true ∷ l) h m here = leb-true n k (and_left (leb n k) (rising k l) h)
above n (k when b ∷ l) h m (later a) =
    let s = leb-true n k (and_left (leb n k) (rising k l) h) in
    let t = above k l (and_right (leb n k) (rising k l) h) m a in
    omega arith

first_above : (n : ℕ) (l : List Refusal) → rising n l ≡ true → (first l ≡ 0 → ⊥) → n ≤ first l
unfolding rising first
first_above n [] h z = absurd (z refl)
first_above n (k when true ∷ l) h z = leb-true n k (and_left (leb n k) (rising k l) h)
first_above n (k when false ∷ l) h z =
    let s = leb-true n k (and_left (leb n k) (rising k l) h) in
    let t = first_above k l (and_right (leb n k) (rising k l) h) z in
    omega arith

-- no row applies, and 0 is given; or n applies, and every number that applies is n or above
pub data Given (l : List Refusal) : ℕ → Type 0 where
  accepted : ((m : ℕ) → ¬ Applies l m) → Given l 0
  smallest : {n : ℕ} → Applies l n → ((m : ℕ) → Applies l m → n ≤ m) → Given l n

pub first_given : (n : ℕ) (l : List Refusal) → rising n l ≡ true → Given l (first l)
unfolding rising first
first_given n [] h = accepted (λ m a. none_applies none_left m a)
first_given n (k when true ∷ l) h = smallest here (λ m a. least a)
  where
    least : {m : ℕ} → Applies (k when true ∷ l) m → k ≤ m
    least here = omega arith
    least {m} (later a) = above k l (and_right (leb n k) (rising k l) h) m a
first_given n (k when false ∷ l) h = up (first_given k l (and_right (leb n k) (rising k l) h))
  where
    down : {m : ℕ} → Applies (k when false ∷ l) m → Applies l m
    down (later a) = a

    up : {m : ℕ} → Given l m → Given (k when false ∷ l) m
    up (accepted f) = accepted (λ m a. f m (down a))
    up (smallest a f) = smallest (later a) (λ m b. f m (down b))

-- ---- Two lists, row by row.

pub sooner_none : (a b : ℕ) → a ≡ 0 → b ≡ sooner_refusal a b
unfolding sooner_refusal
sooner_none a b e = rw (eq-eqb a 0 e)

pub sooner_alone : (a b : ℕ) → (a ≡ 0 → ⊥) → b ≡ 0 → a ≡ sooner_refusal a b
unfolding sooner_refusal
sooner_alone a b k e = rw (ne_eqb a 0 k, eq-eqb b 0 e)

pub sooner_first : (a b : ℕ) → (a ≡ 0 → ⊥) → (b ≡ 0 → ⊥) → a ≤ b → a ≡ sooner_refusal a b
unfolding sooner_refusal
sooner_first a b k j h = rw (ne_eqb a 0 k, ne_eqb b 0 j) (omega arith)

pub sooner_second : (a b : ℕ) → (a ≡ 0 → ⊥) → (b ≡ 0 → ⊥) → b ≤ a → b ≡ sooner_refusal a b
unfolding sooner_refusal
sooner_second a b k j h = rw (ne_eqb a 0 k, ne_eqb b 0 j) (omega arith)

-- n against what is 0, or n or above
lead : (n x : ℕ) → (n ≡ 0 → ⊥) → ((x ≡ 0 → ⊥) → n ≤ x) → n ≡ sooner_refusal n x
lead n zero z u = sooner_alone n 0 z refl
lead n (suc x) z u = sooner_first n (suc x) z (λ e. omega arith) (u (λ e. omega arith))

follow : (n x : ℕ) → (n ≡ 0 → ⊥) → ((x ≡ 0 → ⊥) → n ≤ x) → n ≡ sooner_refusal x n
follow n zero z u = sooner_none 0 n refl
follow n (suc x) z u = sooner_second (suc x) n (λ e. omega arith) z (u (λ e. omega arith))

same_rising : (n : ℕ) {l k j : List Refusal} → EitherOf l k j → rising n l ≡ true → rising n k ≡ true
unfolding rising
same_rising n no_rows h = refl
same_rising n (row {n = m} {l = l} e) h = rw (and_left (leb n m) (rising m l) h) (same_rising m e (and_right (leb n m) (rising m l) h))

-- THE FIRST OF TWO LISTS ROW BY ROW is the sooner of the two firsts, where the numbers rise.
pub first_either : (n : ℕ) {l k j : List Refusal} → EitherOf l k j → rising n l ≡ true → 1 ≤ n → first j ≡ sooner_refusal (first l) (first k)
unfolding first rising
first_either n no_rows h u = sooner_none 0 0 refl
first_either n (row {n = m} {a} {b} {l} {k} {j} e) h u =
    let r = and_right (leb n m) (rising m l) h in
    let v = leb-true n m (and_left (leb n m) (rising m l) h) in
    go a b r v (first_either m e r (omega arith))
  where
    go : (a b : Bool) → rising m l ≡ true → n ≤ m → first j ≡ sooner_refusal (first l) (first k)
        → first (m when (a || b) ∷ j) ≡ sooner_refusal (first (m when a ∷ l)) (first (m when b ∷ k))
    go true true r v ih = lead m m (λ z. omega arith) (λ z. omega arith)
    go true false r v ih = lead m (first k) (λ z. omega arith) (first_above m k (same_rising m e r))
    go false true r v ih = follow m (first l) (λ z. omega arith) (first_above m l r)
    go false false r v ih = ih

pub ruleset choosing = (sooner_none, sooner_alone, sooner_first, sooner_second)
