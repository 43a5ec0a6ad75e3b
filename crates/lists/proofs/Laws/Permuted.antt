-- Lists that are the same but for the order: the words of counting do not see it.
use Rattle.std.specs.Prelude.{◌≡◌, Bool, ◌&&◌, ◌||◌, ℕ, suc, ◌+◌, length}
use Rattle.std.proofs.Math.Path.{refl, ap, ap₂}
use Rattle.std.proofs.Common.{◌∙◌}
use mathlib.Core.List.{List, [], ◌∷◌, ◌++◌}
use Rattle.std.proofs.Math.Bool.{true, false, not, cond}
use native.Mathlib.Omega.{arith}
use Rattle.lists.proofs.Laws.Booleans.{or_swap, and_swap}
use Rattle.lists.specs.Permuted.{Permuted, none, same, swap, then}
use Rattle.lists.specs.Lists.{all, any, those, count, two_of, total, each, each_in}

module _ {A : Type 0} where
  pub permuted_refl : (l : List A) → Permuted l l
  permuted_refl [] = none
  permuted_refl (a ∷ l) = same (permuted_refl l)

  pub any_permuted : (p : A → Bool) {k l : List A} → Permuted k l → any p k ≡ any p l
  unfolding any
  any_permuted p none = refl
  any_permuted p (same {a} h) = ap (λ b. p a || b) (any_permuted p h)
  any_permuted p (swap {a} {b} {l}) = or_swap (p a) (p b) (any p l)
  any_permuted p (then h g) = any_permuted p h ∙ any_permuted p g

  pub all_permuted : (p : A → Bool) {k l : List A} → Permuted k l → all p k ≡ all p l
  unfolding all
  all_permuted p none = refl
  all_permuted p (same {a} h) = ap (λ b. p a && b) (all_permuted p h)
  all_permuted p (swap {a} {b} {l}) = and_swap (p a) (p b) (all p l)
  all_permuted p (then h g) = all_permuted p h ∙ all_permuted p g

  pub count_permuted : (p : A → Bool) {k l : List A} → Permuted k l → count p k ≡ count p l
  unfolding count
  count_permuted p none = refl
  count_permuted p (same {a} h) = ap (λ n. cond (p a) 1 0 + n) (count_permuted p h)
  count_permuted p (swap {a} {b} {l}) = omega arith
  count_permuted p (then h g) = count_permuted p h ∙ count_permuted p g

  pub total_permuted : (f : A → ℕ) {k l : List A} → Permuted k l → total f k ≡ total f l
  unfolding total
  total_permuted f none = refl
  total_permuted f (same {a} h) = ap (λ n. f a + n) (total_permuted f h)
  total_permuted f (swap {a} {b} {l}) = omega arith
  total_permuted f (then h g) = total_permuted f h ∙ total_permuted f g

  pub length_permuted : {k l : List A} → Permuted k l → length k ≡ length l
  length_permuted none = refl
  length_permuted (same h) = ap suc (length_permuted h)
  length_permuted swap = refl
  length_permuted (then h g) = length_permuted h ∙ length_permuted g

  -- two of the list are related: either order, where the relation has none
  pub two_permuted : (r : A → A → Bool) → ((a b : A) → r a b ≡ r b a) → {k l : List A} → Permuted k l → two_of r k ≡ two_of r l
  unfolding two_of any
  two_permuted r turned none = refl
  two_permuted r turned (same {a} h) = ap₂ (λ b c. b || c) (any_permuted (r a) h) (two_permuted r turned h)
  two_permuted r turned (swap {a} {b} {l}) = rw (turned a b) (go (r b a) (any (r a) l) (any (r b) l) (two_of r l))
    where
      go : (x u v w : Bool) → ((x || u) || (v || w)) ≡ ((x || v) || (u || w))
      go true u v w = refl
      go false true true w = refl
      go false true false w = refl
      go false false true w = refl
      go false false false w = refl
  two_permuted r turned (then h g) = two_permuted r turned h ∙ two_permuted r turned g

  -- those of the list that pass, and with the others in front of or behind them
  pub those_permuted : (p : A → Bool) {k l : List A} → Permuted k l → Permuted (those p k) (those p l)
  unfolding those
  those_permuted p none = none
  those_permuted p (same {a} {k} {l} h) = go (p a) (those_permuted p h)
    where
      go : (b : Bool) → Permuted (those p k) (those p l)
          → Permuted (cond b (a ∷ those p k) (those p k)) (cond b (a ∷ those p l) (those p l))
      go true g = same g
      go false g = g
  those_permuted p (swap {a} {b} {l}) = go (p a) (p b)
    where
      go : (x y : Bool)
          → Permuted (cond x (a ∷ cond y (b ∷ those p l) (those p l)) (cond y (b ∷ those p l) (those p l)))
          (cond y (b ∷ cond x (a ∷ those p l) (those p l)) (cond x (a ∷ those p l) (those p l)))
      go true true = swap
      go true false = permuted_refl _
      go false true = permuted_refl _
      go false false = permuted_refl _
  those_permuted p (then h g) = then (those_permuted p h) (those_permuted p g)

  pub append_permuted : (m : List A) {k l : List A} → Permuted k l → Permuted (m ++ k) (m ++ l)
  append_permuted [] h = h
  append_permuted (a ∷ m) h = same (append_permuted m h)

  front : (a : A) (k l : List A) → Permuted (a ∷ (k ++ l)) (k ++ (a ∷ l))
  front a [] l = permuted_refl _
  front a (b ∷ k) l = then swap (same (front a k l))

  pub append_turned : (k l : List A) → Permuted (k ++ l) (l ++ k)
  append_turned [] l = end l
    where
      end : (l : List A) → Permuted l (l ++ [])
      end [] = none
      end (a ∷ l) = same (end l)
  append_turned (a ∷ k) l = then (same (append_turned k l)) (front a l k)

  pub append_both : {k l m n : List A} → Permuted k l → Permuted m n → Permuted (k ++ m) (l ++ n)
  append_both {m = m} none g = g
  append_both (same h) g = same (append_both h g)
  append_both {m = m} {n = n} (swap {a} {b} {l}) g = then swap (same (same (append_permuted l g)))
  append_both (then h f) g = then (append_both h g) (append_both f (permuted_refl _))

  -- a list is those that pass and those that do not, in another order
  pub parted : (p : A → Bool) (l : List A) → Permuted l (those p l ++ those (λ a. not (p a)) l)
  unfolding those
  parted p [] = none
  parted p (a ∷ l) = go (p a) (parted p l)
    where
      go : (b : Bool) → Permuted l (those p l ++ those (λ a. not (p a)) l)
          → Permuted (a ∷ l) (cond b (a ∷ those p l) (those p l) ++ cond (not b) (a ∷ those (λ a. not (p a)) l) (those (λ a. not (p a)) l))
      go true h = same h
      go false h = then (same h) (front a (those p l) (those (λ a. not (p a)) l))

  pub permuted_turned : {k l : List A} → Permuted k l → Permuted l k
  permuted_turned none = none
  permuted_turned (same h) = same (permuted_turned h)
  permuted_turned swap = swap
  permuted_turned (then h g) = then (permuted_turned g) (permuted_turned h)

module _ {A B : Type 0} where
  pub each_permuted : (f : A → B) {k l : List A} → Permuted k l → Permuted (each f k) (each f l)
  unfolding each
  each_permuted f none = none
  each_permuted f (same h) = same (each_permuted f h)
  each_permuted f swap = swap
  each_permuted f (then h g) = then (each_permuted f h) (each_permuted f g)

  pub each_in_permuted : (f : A → List B) {k l : List A} → Permuted k l → Permuted (each_in f k) (each_in f l)
  unfolding each_in
  each_in_permuted f none = none
  each_in_permuted f (same {a} h) = append_permuted (f a) (each_in_permuted f h)
  each_in_permuted f (swap {a} {b} {l}) = turn (f a) (f b) (each_in f l)
    where
      turn : (x y z : List B) → Permuted (x ++ (y ++ z)) (y ++ (x ++ z))
      turn [] y z = permuted_refl _
      turn (c ∷ x) y z = then (same (turn x y z)) (front c y (x ++ z))
  each_in_permuted f (then h g) = then (each_in_permuted f h) (each_in_permuted f g)
