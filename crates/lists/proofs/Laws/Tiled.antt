-- What is proved of things that each have a range: counted by ranges and counted by indices; none reaches past the sum.
use Rattle.std.specs.Prelude.{◌≡◌, Bool, ◌&&◌, length, get_or}
use Rattle.std.proofs.Math.Path.{refl}
use mathlib.Core.List.{List, [], ◌∷◌}
use Rattle.std.proofs.Math.Bool.{true, false, cond}
use Prim.Native.Nat.{ℕ, zero, suc, ◌+◌, ◌-◌, ◌<◌, ◌≤◌, min}
use Rattle.std.proofs.Common.{le_of_suc-le-suc, not-suc-le-zero}
use native.Mathlib.Omega.{arith}
use Rattle.std.proofs.Math.Dec.{leb, ltb}
use borrow.Author.Tests.{leb-true, leb-false, ltb-true, ltb-false, le-leb, lt-ltb}
use Rattle.lists.proofs.Laws.Booleans.{and_halves}
use Rattle.lists.specs.Lists.{count, total}
use Rattle.lists.specs.Ranges.{holds, OnceBelow}

module _ {A : Type 0} (offset size : A → ℕ) where
  pub holds_yes : (n : ℕ) (a : A) → offset a ≤ n → n < offset a + size a → holds offset size n a ≡ true
  unfolding holds
  holds_yes n a h k = rw (le-leb (offset a) n h, lt-ltb n (offset a + size a) k)

  pub holds_is : (n : ℕ) (a : A) → holds offset size n a ≡ true → (offset a ≤ n) × (n < offset a + size a)
  unfolding holds
  holds_is n a h =
      let (x, y) = and_halves (leb (offset a) n) (ltb n (offset a + size a)) h in
      (leb-true (offset a) n x, ltb-true n (offset a + size a) y)

  -- how many indices below n the range holds
  hits : A → ℕ → ℕ
  hits a zero = 0
  hits a (suc n) = cond (holds offset size n a) 1 0 + hits a n

  hits_are : (a : A) (n : ℕ) → hits a n ≡ min n (offset a + size a) - min n (offset a)
  unfolding hits holds
  hits_are a zero = omega arith
  hits_are a (suc n) = go (leb (offset a) n) refl (ltb n (offset a + size a)) refl (hits_are a n)
    where
      go : (x : Bool) → leb (offset a) n ≡ x → (y : Bool) → ltb n (offset a + size a) ≡ y
          → hits a n ≡ min n (offset a + size a) - min n (offset a)
          → cond (leb (offset a) n && ltb n (offset a + size a)) 1 0 + hits a n ≡ min (suc n) (offset a + size a) - min (suc n) (offset a)
      go true e true f h = let x = leb-true (offset a) n e in let y = ltb-true n (offset a + size a) f in rw (e, f) (omega arith)
      go true e false f h = let x = leb-true (offset a) n e in let y = ltb-false n (offset a + size a) f in rw (e, f) (omega arith)
      go false e y f h = let x = leb-false (offset a) n e in rw e (omega arith)

  -- counted by ranges and counted by indices
  hits_sum : (l : List A) (n : ℕ) → total (λ a. hits a (suc n)) l ≡ count (holds offset size n) l + total (λ a. hits a n) l
  unfolding total count hits
  hits_sum [] n = omega arith
  hits_sum (a ∷ l) n =
      let h : total (λ x. cond (holds offset size n x) 1 0 + hits x n) l ≡ count (holds offset size n) l + total (λ x. hits x n) l = hits_sum l n in
      omega arith

  hits_zero : (l : List A) → total (λ a. hits a 0) l ≡ 0
  unfolding total hits
  hits_zero [] = refl
  hits_zero (a ∷ l) = let h : total (λ (x : A). 0) l ≡ 0 = hits_zero l in omega arith

  hits_all : (l : List A) (n : ℕ) → OnceBelow offset size l n → total (λ a. hits a n) l ≡ n
  hits_all l zero f = hits_zero l
  hits_all l (suc n) f =
      let h = hits_all l n (λ i u. f i (omega arith)) in
      let k = f n (omega arith) in
      let s = hits_sum l n in
      omega arith

  -- each hits no more than its size, so if the sums agree each hits as often as its size
  hits_least : (a : A) (n : ℕ) → hits a n ≤ size a
  hits_least a n = let h = hits_are a n in omega arith

  hits_total : (l : List A) (n : ℕ) → total (λ a. hits a n) l ≤ total size l
  unfolding total
  hits_total [] n = omega arith
  hits_total (a ∷ l) n = let h = hits_least a n in let k = hits_total l n in omega arith

  hits_each : (b : A) (l : List A) (n : ℕ) → total size l ≤ total (λ a. hits a n) l → (i : ℕ) → i < length l
      → hits (get_or l i b) n ≡ size (get_or l i b)
  unfolding total
  hits_each b [] n h i u = absurd (not-suc-le-zero u)
  hits_each b (a ∷ l) n h zero u = let k = hits_total l n in let j = hits_least a n in omega arith
  hits_each b (a ∷ l) n h (suc i) u = let j = hits_least a n in hits_each b l n (omega arith) i (le_of_suc-le-suc u)

  -- WITHIN THE SUM: where the ranges tile, none reaches past the sum
  pub ranges_within : (b : A) (l : List A) → OnceBelow offset size l (total size l) → (i : ℕ) → i < length l → 1 ≤ size (get_or l i b)
      → offset (get_or l i b) + size (get_or l i b) ≤ total size l
  ranges_within b l f i u v =
      let n : ℕ = total size l in
      let h = hits_all l n f in
      let e = hits_each b l n (omega arith) i u in
      let a = hits_are (get_or l i b) n in
      omega arith

  -- each index that is held at least once adds one at least
  grows : (l : List A) (a k : ℕ) → ((j : ℕ) → a ≤ j → j < a + k → 1 ≤ count (holds offset size j) l)
      → total (λ x. hits x a) l + k ≤ total (λ x. hits x (a + k)) l
  grows l a zero f = let e : a + 0 ≡ a = omega arith in rw e (omega arith)
  grows l a (suc k) f =
      let h = grows l a k (λ j u v. f j u (omega arith)) in
      let s = hits_sum l (a + k) in
      let g = f (a + k) (omega arith) (omega arith) in
      let e : a + suc k ≡ suc (a + k) = omega arith in
      rw e (omega arith)

  -- as many indices as the sizes say, each held at least once: each held once
  pub held_once : (l : List A) → ((i : ℕ) → i < total size l → 1 ≤ count (holds offset size i) l) → OnceBelow offset size l (total size l)
  held_once l f i u =
      let n : ℕ = total size l in
      let k : ℕ = n - suc i in
      let most = hits_total l n in
      let none = hits_zero l in
      let low = grows l 0 i (λ j _ v. f j (omega arith)) in
      let high = grows l (suc i) k (λ j _ v. f j (omega arith)) in
      let s = hits_sum l i in
      let e : suc i + k ≡ n = omega arith in
      let e₀ : 0 + i ≡ i = omega arith in
      let low' = rw e₀ at low in
      let high' = rw e at high in
      let one = f i u in
      omega arith
