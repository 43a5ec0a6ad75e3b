-- Laws of the words of `Lists`: over a list made from another, over two lists in a row, and of tests that agree.
use Rattle.std.specs.Prelude.{◌≡◌, Bool, true, false, ◌&&◌, ◌||◌, length}
use Rattle.std.proofs.Math.Path.{refl, ap, ap₂}
use Rattle.std.proofs.Common.{◌∙◌, arith}
use mathlib.Core.List.{List, [], ◌∷◌, ◌++◌}
use Rattle.std.proofs.Math.Bool.{cond}
use Prim.Native.Nat.{ℕ, suc, ◌+◌, ◌≤◌}
use Rattle.lists.specs.Lists.{all, any, those, count, two_of, total, each, each_in}
use Rattle.lists.proofs.Laws.Booleans.{and_assoc, or_assoc, and_left, and_right}

-- ---- Tests that agree.

module _ {A : Type 0} where
  pub any_same : {p q : A → Bool} → ((a : A) → p a ≡ q a) → (l : List A) → any p l ≡ any q l
  unfolding any
  any_same h [] = refl
  any_same h (a ∷ l) = rw (h a, any_same h l)

  pub all_same : {p q : A → Bool} → ((a : A) → p a ≡ q a) → (l : List A) → all p l ≡ all q l
  unfolding all
  all_same h [] = refl
  all_same h (a ∷ l) = rw (h a, all_same h l)

  pub count_same : {p q : A → Bool} → ((a : A) → p a ≡ q a) → (l : List A) → count p l ≡ count q l
  unfolding count
  count_same h [] = refl
  count_same h (a ∷ l) = rw (h a, count_same h l)

  pub two_same : {r q : A → A → Bool} → ((a b : A) → r a b ≡ q a b) → (l : List A) → two_of r l ≡ two_of q l
  unfolding two_of
  two_same h [] = refl
  two_same h (a ∷ l) = rw (any_same (h a) l, two_same h l)

  pub any_none : (l : List A) → any (λ (a : A). false) l ≡ false
  unfolding any
  any_none [] = refl
  any_none (a ∷ l) = any_none l

-- ---- Over a list that is made from another.

module _ {A B : Type 0} (g : A → B) where
  pub any_each : (p : B → Bool) (l : List A) → any p (each g l) ≡ any (λ a. p (g a)) l
  unfolding any each
  any_each p [] = refl
  any_each p (a ∷ l) = ap (λ b. p (g a) || b) (any_each p l)

  pub all_each : (p : B → Bool) (l : List A) → all p (each g l) ≡ all (λ a. p (g a)) l
  unfolding all each
  all_each p [] = refl
  all_each p (a ∷ l) = ap (λ b. p (g a) && b) (all_each p l)

  pub count_each : (p : B → Bool) (l : List A) → count p (each g l) ≡ count (λ a. p (g a)) l
  unfolding count each
  count_each p [] = refl
  count_each p (a ∷ l) = ap (λ n. cond (p (g a)) 1 0 + n) (count_each p l)

  pub total_each : (f : B → ℕ) (l : List A) → total f (each g l) ≡ total (λ a. f (g a)) l
  unfolding total each
  total_each f [] = refl
  total_each f (a ∷ l) = ap (λ n. f (g a) + n) (total_each f l)

  pub two_each : (r : B → B → Bool) (l : List A) → two_of r (each g l) ≡ two_of (λ a b. r (g a) (g b)) l
  unfolding two_of each
  two_each r [] = refl
  two_each r (a ∷ l) = ap₂ (λ b c. b || c) (any_each (r (g a)) l) (two_each r l)

  pub length_each : (l : List A) → length (each g l) ≡ length l
  unfolding each
  length_each [] = refl
  length_each (a ∷ l) = ap suc (length_each l)

module _ {A B : Type 0} where
  -- what is made of each is the same, by either
  pub each_same : {f h : A → B} → ((a : A) → f a ≡ h a) → (l : List A) → each f l ≡ each h l
  unfolding each
  each_same e [] = refl
  each_same e (a ∷ l) = rw (e a, each_same e l)

  pub each_in_same : {f h : A → List B} → ((a : A) → f a ≡ h a) → (l : List A) → each_in f l ≡ each_in h l
  unfolding each_in
  each_in_same e [] = refl
  each_in_same e (a ∷ l) = rw (e a, each_in_same e l)

module _ {A B C : Type 0} (g : A → B) where
  pub each_each : (f : B → C) (l : List A) → each f (each g l) ≡ each (λ a. f (g a)) l
  unfolding each
  each_each f [] = refl
  each_each f (a ∷ l) = ap (λ k. f (g a) ∷ k) (each_each f l)

  pub each_in_each : (f : B → List C) (l : List A) → each_in f (each g l) ≡ each_in (λ a. f (g a)) l
  unfolding each each_in
  each_in_each f [] = refl
  each_in_each f (a ∷ l) = ap (λ k. f (g a) ++ k) (each_in_each f l)

-- ---- Over two lists in a row.

pub any_append : {A : Type 0} (p : A → Bool) (k l : List A) → any p (k ++ l) ≡ (any p k || any p l)
unfolding any
any_append p [] l = refl
any_append p (a ∷ k) l = ap (λ b. p a || b) (any_append p k l) ∙ or_assoc (p a) (any p k) (any p l)

pub all_append : {A : Type 0} (p : A → Bool) (k l : List A) → all p (k ++ l) ≡ (all p k && all p l)
unfolding all
all_append p [] l = refl
all_append p (a ∷ k) l = ap (λ b. p a && b) (all_append p k l) ∙ and_assoc (p a) (all p k) (all p l)

pub count_append : {A : Type 0} (p : A → Bool) (k l : List A) → count p (k ++ l) ≡ count p k + count p l
unfolding count
count_append p [] l = omega arith
count_append p (a ∷ k) l = let h = count_append p k l in omega arith

-- none is counted where none passes
pub none_counted : {A : Type 0} (p : A → Bool) (l : List A) → count p l ≡ 0 → any p l ≡ false
unfolding any count
none_counted p [] h = refl
none_counted p (a ∷ l) h = go (p a) h (none_counted p l)
  where
    go : (b : Bool) → cond b 1 0 + count p l ≡ 0 → (count p l ≡ 0 → any p l ≡ false) → (b || any p l) ≡ false
    go true k ih = absurd (omega arith)
    go false k ih = ih (omega arith)

pub count_most : {A : Type 0} (p : A → Bool) (l : List A) → count p l ≤ length l
unfolding count
count_most p [] = omega arith
count_most p (a ∷ l) = go (p a) (count_most p l)
  where
    go : (b : Bool) → count p l ≤ length l → cond b 1 0 + count p l ≤ suc (length l)
    go true h = omega arith
    go false h = omega arith

pub few_those : {A : Type 0} (p : A → Bool) (l : List A) → length (those p l) ≤ length l
unfolding those
few_those p [] = omega arith
few_those p (a ∷ l) = go (p a) (few_those p l)
  where
    go : (b : Bool) → length (those p l) ≤ length l → length (cond b (a ∷ those p l) (those p l)) ≤ length (a ∷ l)
    go true h = omega arith
    go false h = omega arith

-- all pass exactly where as many pass as there are
pub all_counted : {A : Type 0} (p : A → Bool) (l : List A) → all p l ≡ true → count p l ≡ length l
unfolding all count
all_counted p [] h = refl
all_counted p (a ∷ l) h = let r = all_counted p l (and_right (p a) (all p l) h) in rw (and_left (p a) (all p l) h) (omega arith)

pub counted_all : {A : Type 0} (p : A → Bool) (l : List A) → count p l ≡ length l → all p l ≡ true
unfolding all count
counted_all p [] h = refl
counted_all p (a ∷ l) h = go (p a) h (counted_all p l)
  where
    go : (b : Bool) → cond b 1 0 + count p l ≡ suc (length l) → (count p l ≡ length l → all p l ≡ true) → (b && all p l) ≡ true
    go true c on = on (omega arith)
    go false c on = let m = count_most p l in absurd (omega arith)

pub any_in : {A B : Type 0} (p : B → Bool) (f : A → List B) (l : List A) → any p (each_in f l) ≡ any (λ a. any p (f a)) l
unfolding any each_in
any_in p f [] = refl
any_in p f (a ∷ l) = any_append p (f a) (each_in f l) ∙ ap (λ b. any p (f a) || b) (any_in p f l)

-- two of a list in two parts: both in the first, one in each, or both in the second
pub two_append : {A : Type 0} (r : A → A → Bool) (k l : List A) → two_of r (k ++ l) ≡ ((two_of r k || any (λ a. any (r a) l) k) || two_of r l)
unfolding two_of any
two_append r [] l = refl
two_append r (a ∷ k) l = rw (any_append (r a) k l, two_append r k l)
    (shuffle (any (r a) k) (any (r a) l) (two_of r k) (any (λ x. any (r x) l) k) (two_of r l))
  where
    shuffle : (x y u v w : Bool) → ((x || y) || ((u || v) || w)) ≡ (((x || u) || (y || v)) || w)
    shuffle true y u v w = refl
    shuffle false true true v w = refl
    shuffle false true false v w = refl
    shuffle false false true v w = refl
    shuffle false false false v w = refl
