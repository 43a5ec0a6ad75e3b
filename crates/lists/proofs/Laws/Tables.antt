-- A list made from the numbers from i on: by places, and as a loop over an array meets it.
use Rattle.std.specs.Prelude.{◌≡◌, List, [], ◌∷◌, length, get_or, take, drop}
use Rattle.std.proofs.Math.Path.{refl, ap}
use Rattle.std.proofs.Common.{sym, ◌∙◌, add-one, drop-cons}
use Prim.Native.Nat.{ℕ, zero, suc, ◌+◌, ◌-◌, ◌<◌, ◌≤◌}
use native.Mathlib.Omega.{arith}
use Rattle.lists.specs.Lists.{count_up, tabulated, each}

module _ {A : Type 0} where
  pub up_suc : (f : ℕ → A) (i n : ℕ) → count_up f i (suc n) ≡ f i ∷ count_up f (suc i) n
  unfolding count_up
  up_suc f i n = refl

  -- the rest of n of them, from the i-th on
  pub up_one : (f : ℕ → A) (i n : ℕ) → i < n → count_up f i (n - i) ≡ f i ∷ count_up f (i + 1) (n - (i + 1))
  up_one f i n h =
      let e : n - i ≡ suc (n - (i + 1)) = omega arith in
      ap (count_up f i) e ∙ up_suc f i (n - (i + 1)) ∙ ap (λ k. f i ∷ count_up f k (n - (i + 1))) (sym (add-one i))

  pub up_done : (f : ℕ → A) (i n : ℕ) → n ≤ i → count_up f i (n - i) ≡ []
  unfolding count_up
  up_done f i n h = let e : n - i ≡ 0 = omega arith in rw e

  pub up_all : (f : ℕ → A) (n : ℕ) → count_up f 0 (n - 0) ≡ tabulated n f
  unfolding tabulated
  up_all f n = let e : n - 0 ≡ n = omega arith in rw e

  pub up_same : {f g : ℕ → A} (i n : ℕ) → ((k : ℕ) → i ≤ k → k < i + n → f k ≡ g k) → count_up f i n ≡ count_up g i n
  unfolding count_up
  up_same i zero h = refl
  up_same i (suc n) h = rw (h i (omega arith) (omega arith), up_same (suc i) n (λ k u v. h k (omega arith) (omega arith)))

  pub table_below : {f g : ℕ → A} (n : ℕ) → ((k : ℕ) → k < n → f k ≡ g k) → tabulated n f ≡ tabulated n g
  unfolding tabulated
  table_below n h = up_same 0 n (λ k u v. h k (omega arith))

  pub table_same : {f g : ℕ → A} → ((k : ℕ) → f k ≡ g k) → (n : ℕ) → tabulated n f ≡ tabulated n g
  table_same h n = table_below n (λ k _. h k)

  up_length : (f : ℕ → A) (i n : ℕ) → length (count_up f i n) ≡ n
  unfolding count_up
  up_length f i zero = refl
  up_length f i (suc n) = ap suc (up_length f (suc i) n)

  pub size_of_table : (f : ℕ → A) (n : ℕ) → length (tabulated n f) ≡ n
  unfolding tabulated
  size_of_table f n = up_length f 0 n

  up_at : (f : ℕ → A) (b : A) (i n k : ℕ) → k < n → get_or (count_up f i n) k b ≡ f (i + k)
  unfolding count_up
  up_at f b i zero k h = absurd (omega arith)
  up_at f b i (suc n) zero h = ap f (omega arith)
  up_at f b i (suc n) (suc k) h = let e : suc i + k ≡ i + suc k = omega arith in up_at f b (suc i) n k (omega arith) ∙ ap f e

  pub entry_of_table : (f : ℕ → A) (b : A) (n k : ℕ) → k < n → get_or (tabulated n f) k b ≡ f k
  unfolding tabulated
  entry_of_table f b n k h = let e : 0 + k ≡ k = omega arith in up_at f b 0 n k h ∙ ap f e

module _ {A B : Type 0} where
  each_up : (h : A → B) (f : ℕ → A) (i n : ℕ) → each h (count_up f i n) ≡ count_up (λ k. h (f k)) i n
  unfolding each count_up
  each_up h f i zero = refl
  each_up h f i (suc n) = ap (λ l. h (f i) ∷ l) (each_up h f (suc i) n)

  pub each_table : (h : A → B) (f : ℕ → A) (n : ℕ) → each h (tabulated n f) ≡ tabulated n (λ k. h (f k))
  unfolding tabulated
  each_table h f n = each_up h f 0 n

-- the first n entries of an array
take_up : {A : Type 0} (f : ℕ → A) (l : List ℕ) (i n : ℕ) → i + n ≤ length l
    → each f (take n (drop i l)) ≡ count_up (λ k. f (get_or l k 0)) i n
unfolding each count_up
take_up f l i zero h = refl
take_up f l i (suc n) h =
    let d = drop-cons l i 0 (omega arith) in
    ap (λ r. each f (take (suc n) r)) d ∙ ap (λ r. f (get_or l i 0) ∷ r) (take_up f l (suc i) n (omega arith))

pub each_take : {A : Type 0} (f : ℕ → A) (l : List ℕ) (n : ℕ) → n ≤ length l → each f (take n l) ≡ tabulated n (λ k. f (get_or l k 0))
unfolding tabulated
each_take f l n h = take_up f l 0 n (omega arith)
