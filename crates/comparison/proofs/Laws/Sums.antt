-- THE SUMS: same, moved and first only are the first's indices; and of sheets without repeats same, moved and second only are the
-- second's. Assumes nothing.
use Rattle.std.specs.Prelude.{◌≡◌, Bool, not, ◌||◌, List, [], ◌∷◌, ℕ, zero, suc, ◌+◌, ◌≤◌, ◌<◌, eqb, ltb, length, get_or}
use Rattle.std.proofs.Math.Path.{refl, ap}
use Rattle.std.proofs.Common.{sym, ◌∙◌, arith, inl, inr, add-one, eqb-true, ltb-true}
use Rattle.std.proofs.Math.Bool.{true, false, cond}
use Rattle.lists.specs.Lists.{any, count, two_of}
use Rattle.lists.proofs.Laws.Booleans.{and_left, and_right, or_left, or_right, or_second, both_ways}
use Rattle.lists.proofs.Laws.Numbers.{eqb_turned, lt?}
use Rattle.comparison.specs.Compare.{count_below, has_at, has_record, same_at, moved_at, only_at, same, moved, first_only, second_only}

-- ---- Counting over numbers below n.

pub below_most : (n : ℕ) (p : ℕ → Bool) → count_below n p ≤ n
unfolding count_below
below_most zero p = omega arith
below_most (suc n) p = go (p n) (below_most n p)
  where
    go : (t : Bool) → count_below n p ≤ n → cond t 1 0 + count_below n p ≤ suc n
    go true h = omega arith
    go false h = omega arith

-- one more number
pub below_yes : (i : ℕ) (p : ℕ → Bool) (n : ℕ) → n ≡ count_below i p → p i ≡ true → n + 1 ≡ count_below (i + 1) p
unfolding count_below
below_yes i p n e h = let s : count_below (suc i) p ≡ 1 + count_below i p = rw h refl in let z : count_below (i + 1) p ≡ count_below
    (suc i) p = ap (λ (k : ℕ). count_below k p) (add-one i) in omega arith

pub below_no : (i : ℕ) (p : ℕ → Bool) (n : ℕ) → n ≡ count_below i p → p i ≡ false → n ≡ count_below (i + 1) p
unfolding count_below
below_no i p n e h = let s : count_below (suc i) p ≡ 0 + count_below i p = rw h refl in let z : count_below (i + 1) p ≡ count_below
    (suc i) p = ap (λ (k : ℕ). count_below k p) (add-one i) in omega arith

-- numbers of which none passes
pub below_past : (m n : ℕ) (p : ℕ → Bool) → ((i : ℕ) → m ≤ i → p i ≡ false) → m ≤ n → count_below n p ≡ count_below m p
unfolding count_below
below_past m zero p h le = let e : zero ≡ m = omega arith in ap (λ (k : ℕ). count_below k p) e
below_past m (suc n) p h le = elim (lt? n m) [
  | inl few ↦ let e : suc n ≡ m = omega arith in ap (λ (k : ℕ). count_below k p) e
  | inr more ↦ rw (h n more) (let e = below_past m n p h more in omega arith)
]

-- two tests that share out a third
shared : (n : ℕ) (p q r : ℕ → Bool) → ((i : ℕ) → cond (p i) 1 0 + cond (q i) 1 0 ≡ cond (r i) 1 0)
    → count_below n p + count_below n q ≡ count_below n r
unfolding count_below
shared zero p q r h = refl
shared (suc n) p q r h = let e = shared n p q r h in let f = h n in omega arith

every : (n : ℕ) → count_below n (λ i. true) ≡ n
unfolding count_below
every zero = refl
every (suc n) = let e = every n in omega arith

-- by the front rather than by the end
pub front : (n : ℕ) (p : ℕ → Bool) → count_below (suc n) p ≡ cond (p 0) 1 0 + count_below n (λ i. p (suc i))
unfolding count_below
front zero p = refl
front (suc n) p = let e = front n p in omega arith

-- over the indices of a list, and over the list
pub indexed : (p : ℕ → Bool) (a : List ℕ) → count_below (length a) (λ i. p (get_or a i 0)) ≡ count p a
unfolding count_below count
indexed p [] = refl
indexed p (x ∷ a) = front (length a) (λ i. p (get_or (x ∷ a) i 0)) ∙ ap (λ (n : ℕ). cond (p x) 1 0 + n) (indexed p a)

-- ---- The three tests of an index.

pub has_at_lem : (b : List ℕ) (i x : ℕ) → has_at b i x ≡ true → has_record b x ≡ true
unfolding has_at has_record any
has_at_lem b i x h = go b i (ltb-true i (length b) (and_left (ltb i (length b)) (eqb x (get_or b i 0)) h)) (and_right (ltb i (length b))
    (eqb x (get_or b i 0)) h)
  where
    go : (b : List ℕ) (i : ℕ) → i < length b → eqb x (get_or b i 0) ≡ true → any (eqb x) b ≡ true
    go [] i h e = absurd (omega arith)
    go (y ∷ b) zero h e = rw e refl
    go (y ∷ b) (suc i) h e = or_second (eqb x y) (go b i (omega arith) e)

module _ (a b : List ℕ) where
  abbrev in_both : ℕ → Bool
  in_both i = has_record b (get_or a i 0)

  same_has : (i : ℕ) → same_at a b i ≡ true → in_both i ≡ true
  unfolding same_at
  same_has i h = has_at_lem b i (get_or a i 0) h

  -- in both is same or moved
  pub both_is : same a b + moved a b ≡ count (has_record b) a
  unfolding moved_at
  both_is = shared (length a) (same_at a b) (moved_at a b) in_both (λ i. go i (same_at a b i) refl (in_both i) refl) ∙ indexed (has_record b) a
    where
      go : (i : ℕ) (t : Bool) → same_at a b i ≡ t → (u : Bool) → in_both i ≡ u → cond (same_at a b i) 1 0 + cond
          (moved_at a b i) 1 0 ≡ cond (in_both i) 1 0
      go i true e true f = rw (e, f) refl
      go i true e false f = both_ways (same_has i e) f
      go i false e true f = rw (e, f) refl
      go i false e false f = rw (e, f) refl

  pub only_is : count (has_record b) a + first_only a b ≡ length a
  unfolding only_at
  only_is = ap (λ (n : ℕ). n + first_only a b) (sym (indexed (has_record b) a)) ∙ shared (length a) in_both (only_at a b) (λ i. true) (λ i. go
      (in_both i)) ∙ every (length a)
    where
      go : (t : Bool) → cond t 1 0 + cond (not t) 1 0 ≡ 1
      go true = refl
      go false = refl

  -- the first's count, whatever the sheets
  pub adds_up : same a b + moved a b + first_only a b ≡ length a
  adds_up = let e = both_is in let f = only_is in omega arith

-- ---- Without repeats as many of the one are in the other as of the other in the one.

pub none : (p : ℕ → Bool) (b : List ℕ) → any p b ≡ false → count p b ≡ 0
unfolding any count
none p [] h = refl
none p (y ∷ b) h = rw (or_left (p y) (any p b) h) (let e = none p b (or_right (p y) (any p b) h) in omega arith)

-- a number counted in a list without repeats
pub once : (x : ℕ) (b : List ℕ) → two_of eqb b ≡ false → count (eqb x) b ≡ cond (has_record b x) 1 0
unfolding two_of has_record count any
once x [] h = refl
once x (y ∷ b) h = go (eqb x y) refl (once x b (or_right (any (eqb y) b) (two_of eqb b) h))
  where
    go : (t : Bool) → eqb x y ≡ t → count (eqb x) b ≡ cond (any (eqb x) b) 1 0 → cond (eqb x y) 1 0 + count (eqb x) b ≡ cond
        (eqb x y || any (eqb x) b) 1 0
    go true e r =
        let same : x ≡ y = eqb-true x y e in
        let z : count (eqb x) b ≡ 0 = none (eqb x) b (ap (λ (n : ℕ). any (eqb n) b) same ∙ or_left (any (eqb y) b) (two_of eqb b) h) in
        rw e (omega arith)
    go false e r = rw e (omega arith)

-- one more number of the other list
more : (x : ℕ) (a b : List ℕ) → has_record a x ≡ false → count (has_record (x ∷ a)) b ≡ count (eqb x) b + count (has_record a) b
unfolding has_record count any
more x a [] h = refl
more x a (y ∷ b) h = go (eqb x y) refl (any (eqb y) a) refl (more x a b h)
  where
    go : (t : Bool) → eqb x y ≡ t → (u : Bool) → any (eqb y) a ≡ u → count (has_record (x ∷ a)) b ≡ count (eqb x) b + count (has_record a) b
        → cond (eqb y x || any (eqb y) a) 1 0 + count (has_record (x ∷ a)) b ≡ cond (eqb x y) 1 0 + count (eqb x) b + (cond (any
        (eqb y) a) 1 0 + count (has_record a) b)
    go true e true f r = both_ways f (ap (λ (n : ℕ). any (eqb n) a) (sym (eqb-true x y e)) ∙ h)
    go true e false f r = rw (sym (eqb_turned x y), e, f) (omega arith)
    go false e true f r = rw (sym (eqb_turned x y), e, f) (omega arith)
    go false e false f r = rw (sym (eqb_turned x y), e, f) (omega arith)

pub nothing : (b : List ℕ) → count (has_record []) b ≡ 0
unfolding has_record count any
nothing [] = refl
nothing (y ∷ b) = let e = nothing b in omega arith

alone : (x : ℕ) (a : List ℕ) → any (eqb x) a ≡ false → has_record a x ≡ false
unfolding has_record
alone x a e = e

pub both_turned : (a b : List ℕ) → two_of eqb a ≡ false → two_of eqb b ≡ false → count (has_record b) a ≡ count (has_record a) b
unfolding two_of count
both_turned [] b g h = sym (nothing b)
both_turned (x ∷ a) b g h =
    let r = both_turned a b (or_right (any (eqb x) a) (two_of eqb a) g) h in
    let o = once x b h in
    let m = more x a b (alone x a (or_left (any (eqb x) a) (two_of eqb a) g)) in
    omega arith

-- the second's count, where neither has a repeat
pub adds_up_second : (a b : List ℕ) → two_of eqb a ≡ false → two_of eqb b ≡ false → same a b + moved a b + second_only a b ≡ length b
adds_up_second a b g h = let e = both_is a b in let f = only_is b a in let t = both_turned a b g h in omega arith
