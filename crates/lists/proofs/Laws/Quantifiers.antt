-- What the words of `Lists` mean: each test is a statement about all places of a list, or about one or two of them.
use Rattle.std.specs.Prelude.{◌≡◌, ◌↔◌, Bool, ◌||◌, get_or}
use Rattle.std.proofs.Math.Path.{refl, ap}
use Rattle.std.proofs.Common.{sym, ◌∙◌, true≢false, le_of_suc-le-suc}
use mathlib.Core.List.{List, [], ◌∷◌}
use Rattle.std.proofs.Math.Bool.{true, false, cond}
use Rattle.std.proofs.lemmas.Bool.{false≢true}
use Prim.Native.Nat.{ℕ, zero, suc, ◌+◌, ◌<◌, suc-le-suc}
use Rattle.std.proofs.Math.Nat.{not-suc-le-zero}
use Rattle.std.proofs.Math.Decide.{ℕ_discrete}
use native.Mathlib.Omega.{arith}
use Rattle.std.proofs.Math.ListN.{length}
use Rattle.lists.specs.Lists.{all, any, count, two_of, all_below}
use Rattle.lists.proofs.Laws.Booleans.{and_left, and_right, and_both, or_first, or_second}

module _ {A : Type 0} (d : A) where
  -- some place of the list passes
  abbrev pub SomePlace : (A → Bool) → List A → Type 0
  SomePlace p l = (i : ℕ) × (i < length l) × (p (get_or l i d) ≡ true)

  -- every place of the list passes
  abbrev pub EveryPlace : (A → Bool) → List A → Type 0
  EveryPlace p l = (i : ℕ) → i < length l → p (get_or l i d) ≡ true

  -- two different places are related
  abbrev pub TwoPlaces : (A → A → Bool) → List A → Type 0
  TwoPlaces r l = (i : ℕ) × (j : ℕ) × (i < j) × (j < length l) × (r (get_or l i d) (get_or l j d) ≡ true)

  any_places : (p : A → Bool) (l : List A) → any p l ≡ true → SomePlace p l
  unfolding any
  any_places p [] h = absurd (false≢true h)
  any_places p (a ∷ l) h = go (p a) refl h (any_places p l)
    where
      go : (b : Bool) → p a ≡ b → (b || any p l) ≡ true → (any p l ≡ true → SomePlace p l) → SomePlace p (a ∷ l)
      go true e k f = (0, omega arith, e)
      go false e k f = let (i, u, v) = f k in (suc i, omega arith, v)

  places_any : (p : A → Bool) (l : List A) (i : ℕ) → i < length l → p (get_or l i d) ≡ true → any p l ≡ true
  unfolding any
  places_any p [] i u v = absurd (not-suc-le-zero u)
  places_any p (a ∷ l) zero u v = or_first (p a) (any p l) v
  places_any p (a ∷ l) (suc i) u v = or_second (p a) (places_any p l i (le_of_suc-le-suc u) v)

  pub any_iff : (p : A → Bool) (l : List A) → (any p l ≡ true) ↔ SomePlace p l
  any_iff p l = (any_places p l, λ (i, u, v). places_any p l i u v)

  all_places : (p : A → Bool) (l : List A) → all p l ≡ true → EveryPlace p l
  unfolding all
  all_places p [] h i u = absurd (not-suc-le-zero u)
  all_places p (a ∷ l) h zero u = and_left (p a) (all p l) h
  all_places p (a ∷ l) h (suc i) u = all_places p l (and_right (p a) (all p l) h) i (le_of_suc-le-suc u)

  places_all : (p : A → Bool) (l : List A) → EveryPlace p l → all p l ≡ true
  unfolding all
  places_all p [] f = refl
  places_all p (a ∷ l) f = and_both (f 0 (omega arith)) (places_all p l (λ i u. f (suc i) (suc-le-suc u)))

  pub all_iff : (p : A → Bool) (l : List A) → (all p l ≡ true) ↔ EveryPlace p l
  all_iff p l = (all_places p l, places_all p l)

  two_places : (r : A → A → Bool) (l : List A) → two_of r l ≡ true → TwoPlaces r l
  unfolding two_of
  two_places r [] h = absurd (false≢true h)
  two_places r (a ∷ l) h = go (any (r a) l) refl h (two_places r l)
    where
      go : (b : Bool) → any (r a) l ≡ b → (b || two_of r l) ≡ true → (two_of r l ≡ true → TwoPlaces r l) → TwoPlaces r (a ∷ l)
      go true e k f = let (j, u, v) = any_places (r a) l e in (0, suc j, omega arith, omega arith, v)
      go false e k f = let (i, j, t, u, v) = f k in (suc i, suc j, omega arith, omega arith, v)

  places_two : (r : A → A → Bool) (l : List A) (i j : ℕ) → i < j → j < length l → r (get_or l i d) (get_or l j d) ≡ true → two_of r l ≡ true
  unfolding two_of
  places_two r [] i j t u v = absurd (not-suc-le-zero u)
  places_two r (a ∷ l) i zero t u v = absurd (not-suc-le-zero t)
  places_two r (a ∷ l) zero (suc j) t u v = or_first (any (r a) l) (two_of r l) (places_any (r a) l j (le_of_suc-le-suc u) v)
  places_two r (a ∷ l) (suc i) (suc j) t u v = or_second (any (r a) l) (places_two r l i j (le_of_suc-le-suc t) (le_of_suc-le-suc u) v)

  pub two_of_iff : (r : A → A → Bool) (l : List A) → (two_of r l ≡ true) ↔ TwoPlaces r l
  two_of_iff r l = (two_places r l, λ (i, j, t, u, v). places_two r l i j t u v)

  -- exactly one place passes
  abbrev pub OnePlace : (A → Bool) → List A → Type 0
  OnePlace p l = (i : ℕ) × (i < length l) × (p (get_or l i d) ≡ true) × ((j : ℕ) → j < length l → p (get_or l j d) ≡ true → j ≡ i)

  count_none : (p : A → Bool) (l : List A) → count p l ≡ 0 → (j : ℕ) → j < length l → p (get_or l j d) ≡ true → ⊥
  unfolding count
  count_none p [] h j u v = not-suc-le-zero u
  count_none p (a ∷ l) h zero u v =
      let k : cond (p a) 1 0 + count p l ≡ 0 = h in
      let o : 1 + count p l ≡ 0 = rw v at k in
      omega arith
  count_none p (a ∷ l) h (suc j) u v =
      let k : cond (p a) 1 0 + count p l ≡ 0 = h in
      count_none p l (omega arith) j (le_of_suc-le-suc u) v

  none_count : (p : A → Bool) (l : List A) → ((j : ℕ) → j < length l → p (get_or l j d) ≡ true → ⊥) → count p l ≡ 0
  unfolding count
  none_count p [] f = refl
  none_count p (a ∷ l) f = go (p a) refl (none_count p l (λ j u v. f (suc j) (suc-le-suc u) v))
    where
      go : (b : Bool) → p a ≡ b → count p l ≡ 0 → cond b 1 0 + count p l ≡ 0
      go true e k = absurd (f 0 (omega arith) e)
      go false e k = omega arith

  count_one : (p : A → Bool) (l : List A) → count p l ≡ 1 → OnePlace p l
  unfolding count
  count_one p [] h = absurd (omega arith)
  count_one p (a ∷ l) h = go (p a) refl h (count_one p l)
    where
      go : (b : Bool) → p a ≡ b → cond b 1 0 + count p l ≡ 1 → (count p l ≡ 1 → OnePlace p l) → OnePlace p (a ∷ l)
      go true e k f = (0, omega arith, e, only)
        where
          only : (j : ℕ) → j < length (a ∷ l) → p (get_or (a ∷ l) j d) ≡ true → j ≡ 0
          only zero u v = refl
          only (suc j) u v = absurd (count_none p l (omega arith) j (le_of_suc-le-suc u) v)
      go false e k f = step (f (omega arith))
        where
          step : OnePlace p l → OnePlace p (a ∷ l)
          step (i, u, v, w) = (suc i, omega arith, v, only)
            where
              only : (j : ℕ) → j < length (a ∷ l) → p (get_or (a ∷ l) j d) ≡ true → j ≡ suc i
              only zero x y = absurd (true≢false (sym y ∙ e))
              only (suc j) x y = ap suc (w j (le_of_suc-le-suc x) y)

  one_count : (p : A → Bool) (l : List A) (i : ℕ) → i < length l → p (get_or l i d) ≡ true
      → ((j : ℕ) → j < length l → p (get_or l j d) ≡ true → j ≡ i) → count p l ≡ 1
  unfolding count
  one_count p [] i u v w = absurd (not-suc-le-zero u)
  one_count p (a ∷ l) zero u v w =
      let k : count p l ≡ 0 = none_count p l (λ j x y. ℕ-away (w (suc j) (suc-le-suc x) y)) in
      rw v (omega arith)
    where
      ℕ-away : {j : ℕ} → suc j ≡ 0 → ⊥
      ℕ-away e = omega arith
  one_count p (a ∷ l) (suc i) u v w = go (p a) refl (one_count p l i (le_of_suc-le-suc u) v (λ j x y. down (w (suc j) (suc-le-suc x) y)))
    where
      down : {j k : ℕ} → suc j ≡ suc k → j ≡ k
      down e = omega arith

      go : (b : Bool) → p a ≡ b → count p l ≡ 1 → cond b 1 0 + count p l ≡ 1
      go true e k = absurd (let z : ◌≡◌ {A = ℕ} 0 (suc i) = w 0 (omega arith) e in omega arith)
      go false e k = omega arith

  pub count_one_iff : (p : A → Bool) (l : List A) → (count p l ≡ 1) ↔ OnePlace p l
  count_one_iff p l = (count_one p l, λ (i, u, v, w). one_count p l i u v w)

-- every number below n passes
below_all : (n : ℕ) (p : ℕ → Bool) → all_below n p ≡ true → (i : ℕ) → i < n → p i ≡ true
unfolding all_below
below_all zero p h i u = absurd (not-suc-le-zero u)
below_all (suc n) p h i u = go (ℕ_discrete i n) (below_all n p (and_right (p n) (all_below n p) h) i)
  where
    go : Dec (i ≡ n) → (i < n → p i ≡ true) → p i ≡ true
    go (yes e) f = rw e (and_left (p n) (all_below n p) h)
    go (no w) f = f (omega arith)

all_below_lem : (n : ℕ) (p : ℕ → Bool) → ((i : ℕ) → i < n → p i ≡ true) → all_below n p ≡ true
unfolding all_below
all_below_lem zero p f = refl
all_below_lem (suc n) p f = and_both (f n (omega arith)) (all_below_lem n p (λ i u. f i (omega arith)))

pub all_below_iff : (n : ℕ) (p : ℕ → Bool) → (all_below n p ≡ true) ↔ ((i : ℕ) → i < n → p i ≡ true)
all_below_iff n p = (below_all n p, all_below_lem n p)
