-- THEOREMS ON THE LINES: one answer of each index, and as many lines as locations moved, first only and second only. Assumes nothing.
use Rattle.std.specs.Prelude.{◌≡◌, Bool, cond, ◌&&◌, List, ℕ, zero, suc, ◌+◌, ◌-◌, ◌<◌, get_or}
use Rattle.std.proofs.Math.Path.{refl, ap}
use Rattle.std.proofs.Common.{sym, ◌∙◌, lt-ltb, le-ltb}
use Rattle.std.proofs.Math.Bool.{true, false, not}
use native.Mathlib.Omega.{arith}
use Rattle.std.proofs.Math.ListN.{length}
use Rattle.lists.proofs.Laws.Booleans.{both_ways}
use Rattle.comparison.specs.Compare.{count_below, has_record, has_at, same_at, moved_at, only_at, moved, first_only, second_only}
use Rattle.comparison.proofs.Laws.Sums.{has_at_lem}
use Rattle.compare.specs.declared.changes.Change.{Change}
use Rattle.compare.specs.declared.changes.Change.TheVariants.{Same, Moved, First, Second}
use Rattle.compare.specs.Change.{of_first, of_second, change_at, first_end}

pub change_unique : (a b : List ℕ) (i : ℕ) (x y : Change) → x ≡ change_at a b i → y ≡ change_at a b i → x ≡ y
change_unique a b i x y p q = p ∙ sym q

pub end_unique : (s : List ℕ) (x y : ℕ) → x ≡ first_end s → y ≡ first_end s → x ≡ y
end_unique s x y p q = p ∙ sym q

-- what a line says
unfoldable pub says_moved : Change → Bool
says_moved Same = false
says_moved Moved = true
says_moved First = false
says_moved Second = false

unfoldable pub says_first : Change → Bool
says_first Same = false
says_first Moved = false
says_first First = true
says_first Second = false

unfoldable pub says_second : Change → Bool
says_second Same = false
says_second Moved = false
says_second First = false
says_second Second = true

-- how many lines say so, over the indices of the first and then of the second
abbrev pub lines : (Change → Bool) → List ℕ → List ℕ → ℕ
lines says a b = count_below (length a + length b) (λ i. says (change_at a b i))

-- ---- Counting over both.

alike_below : (n : ℕ) (p q : ℕ → Bool) → ((i : ℕ) → i < n → p i ≡ q i) → count_below n p ≡ count_below n q
unfolding count_below
alike_below zero p q h = refl
alike_below (suc n) p q h =
    let e = alike_below n p q (λ i g. h i (omega arith)) in
    let f : cond {A = ℕ} (p n) 1 0 ≡ cond {A = ℕ} (q n) 1 0 = ap (λ (b : Bool). cond {A = ℕ} b 1 0) (h n (omega arith)) in
    omega arith

two_parts : (n m : ℕ) (p : ℕ → Bool) → count_below (n + m) p ≡ count_below n p + count_below m (λ j. p (n + j))
unfolding count_below
two_parts n zero p = let e : n + 0 ≡ n = omega arith in let f = ap (λ (k : ℕ). count_below k p) e in omega arith
two_parts n (suc m) p =
    let e : n + suc m ≡ suc (n + m) = omega arith in
    let f : count_below (n + suc m) p ≡ cond (p (n + m)) 1 0 + count_below (n + m) p = ap (λ (k : ℕ). count_below k p) e in
    let r = two_parts n m p in
    omega arith

none_below : (n : ℕ) → count_below n (λ i. false) ≡ 0
unfolding count_below
none_below zero = refl
none_below (suc n) = let e = none_below n in omega arith

module _ (a b : List ℕ) where
  of_first_lem : (i : ℕ) → i < length a → change_at a b i ≡ of_first a b i
  unfolding change_at
  of_first_lem i h = rw (lt-ltb i (length a) h) refl

  of_second_lem : (j : ℕ) → change_at a b (length a + j) ≡ of_second a b j
  unfolding change_at
  of_second_lem j = let e : length a + j - length a ≡ j = omega arith in rw (le-ltb (length a + j) (length a) (omega arith), e) refl

  -- over each part apart
  apart : (says : Change → Bool) → lines says a b
      ≡ count_below (length a) (λ i. says (of_first a b i)) + count_below (length b) (λ j. says (of_second a b j))
  apart says =
      let t = two_parts (length a) (length b) (λ i. says (change_at a b i)) in
      let f = alike_below (length a) (λ i. says (change_at a b i)) (λ i. says (of_first a b i)) (λ i h. ap says (of_first_lem i h)) in
      let g = alike_below (length b) (λ j. says (change_at a b (length a + j))) (λ j. says (of_second a b j)) (λ j h. ap says
      (of_second_lem j)) in
      omega arith

  moved_first : (i : ℕ) → says_moved (of_first a b i) ≡ moved_at a b i
  unfolding of_first moved_at says_moved
  moved_first i = by (same_at a b i) (has_record b (get_or a i 0))
    where
      by : (s h : Bool) → says_moved (cond s Same (cond h Moved First)) ≡ (not s && h)
      by true h = refl
      by false true = refl
      by false false = refl

  first_first : (i : ℕ) → says_first (of_first a b i) ≡ only_at a b i
  unfolding of_first only_at says_first same_at
  first_first i = by (has_at b i (get_or a i 0)) refl (has_record b (get_or a i 0)) refl
    where
      by : (s : Bool) → has_at b i (get_or a i 0) ≡ s → (h : Bool) → has_record b (get_or a i 0) ≡ h
          → says_first (cond (has_at b i (get_or a i 0)) Same
          (cond (has_record b (get_or a i 0)) Moved First)) ≡ not (has_record b (get_or a i 0))
      by true e true f = rw (e, f) refl
      by true e false f = both_ways (has_at_lem b i (get_or a i 0) e) f
      by false e true f = rw (e, f) refl
      by false e false f = rw (e, f) refl

  second_first : (i : ℕ) → says_second (of_first a b i) ≡ false
  unfolding of_first says_second
  second_first i = by (same_at a b i) (has_record b (get_or a i 0))
    where
      by : (s h : Bool) → says_second (cond s Same (cond h Moved First)) ≡ false
      by true h = refl
      by false true = refl
      by false false = refl

  of_second_is : (j : ℕ) → j < length b → of_second a b j ≡ cond (has_record a (get_or b j 0)) Same Second
  unfolding of_second
  of_second_is j h = rw (lt-ltb j (length b) h) refl

  moved_second : (h : Bool) → says_moved (cond h Same Second) ≡ false
  unfolding says_moved
  moved_second true = refl
  moved_second false = refl

  first_second : (h : Bool) → says_first (cond h Same Second) ≡ false
  unfolding says_first
  first_second true = refl
  first_second false = refl

  second_second : (h : Bool) → says_second (cond h Same Second) ≡ not h
  unfolding says_second
  second_second true = refl
  second_second false = refl

  -- as many lines as locations
  pub lines_moved : lines says_moved a b ≡ moved a b
  lines_moved =
      let t = apart says_moved in
      let f = alike_below (length a) (λ i. says_moved (of_first a b i)) (moved_at a b) (λ i h. moved_first i) in
      let g = alike_below (length b) (λ j. says_moved (of_second a b j)) (λ j. false) (λ j h. ap says_moved (of_second_is j h)
      ∙ moved_second (has_record a (get_or b j 0))) in
      let z = none_below (length b) in
      omega arith

  pub lines_first : lines says_first a b ≡ first_only a b
  lines_first =
      let t = apart says_first in
      let f = alike_below (length a) (λ i. says_first (of_first a b i)) (only_at a b) (λ i h. first_first i) in
      let g = alike_below (length b) (λ j. says_first (of_second a b j)) (λ j. false) (λ j h. ap says_first (of_second_is j h)
      ∙ first_second (has_record a (get_or b j 0))) in
      let z = none_below (length b) in
      omega arith

  pub lines_second : lines says_second a b ≡ second_only a b
  unfolding only_at
  lines_second =
      let t = apart says_second in
      let f = alike_below (length a) (λ i. says_second (of_first a b i)) (λ i. false) (λ i h. second_first i) in
      let g = alike_below (length b) (λ j. says_second (of_second a b j)) (only_at b a) (λ j h. ap says_second (of_second_is j h)
      ∙ second_second (has_record a (get_or b j 0))) in
      let z = none_below (length a) in
      omega arith
