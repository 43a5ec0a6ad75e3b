-- LISTS SIDE BY SIDE: each thing of the one is kept in the other, or stands for another that is related to it. The words of counting see
-- no difference where their test sees none.
use Rattle.std.specs.Prelude.{◌≡◌, List, [], ◌∷◌, ◌++◌, Bool, ◌&&◌, ◌||◌, length}
use Rattle.std.proofs.Math.Path.{refl, ap, ap₂}
use Rattle.std.proofs.Math.Bool.{true, false, cond}
use Prim.Native.Nat.{ℕ, suc, ◌+◌, max}
use Rattle.lists.specs.Lists.{all, any, those, count, total, greatest, each, each_in}

pub data Beside {A : Type 0} (R : A → A → Type 0) : List A → List A → Type 0 where
  no_more : Beside R [] []
  kept_one : {a : A} {k l : List A} → Beside R k l → Beside R (a ∷ k) (a ∷ l)
  changed_one : {a b : A} {k l : List A} → R a b → Beside R k l → Beside R (a ∷ k) (b ∷ l)

module _ {A : Type 0} {R : A → A → Type 0} where
  pub beside_refl : (l : List A) → Beside R l l
  beside_refl [] = no_more
  beside_refl (a ∷ l) = kept_one (beside_refl l)

  pub append_beside : {k l m n : List A} → Beside R k l → Beside R m n → Beside R (k ++ m) (l ++ n)
  append_beside no_more g = g
  append_beside (kept_one h) g = kept_one (append_beside h g)
  append_beside (changed_one r h) g = changed_one r (append_beside h g)

  pub length_beside : {k l : List A} → Beside R k l → length k ≡ length l
  length_beside no_more = refl
  length_beside (kept_one h) = ap suc (length_beside h)
  length_beside (changed_one r h) = ap suc (length_beside h)

  -- a test that sees no difference
  module _ (p : A → Bool) (blind : (a b : A) → R a b → p a ≡ p b) where
    pub all_beside : {k l : List A} → Beside R k l → all p k ≡ all p l
    unfolding all
    all_beside no_more = refl
    all_beside (kept_one {a} h) = ap (λ b. p a && b) (all_beside h)
    all_beside (changed_one r h) = ap₂ (λ a b. a && b) (blind _ _ r) (all_beside h)

    pub any_beside : {k l : List A} → Beside R k l → any p k ≡ any p l
    unfolding any
    any_beside no_more = refl
    any_beside (kept_one {a} h) = ap (λ b. p a || b) (any_beside h)
    any_beside (changed_one r h) = ap₂ (λ a b. a || b) (blind _ _ r) (any_beside h)

    pub count_beside : {k l : List A} → Beside R k l → count p k ≡ count p l
    unfolding count
    count_beside no_more = refl
    count_beside (kept_one {a} h) = ap (λ n. cond (p a) 1 0 + n) (count_beside h)
    count_beside (changed_one r h) = ap₂ (λ a n. cond a 1 0 + n) (blind _ _ r) (count_beside h)

    pub those_beside : {k l : List A} → Beside R k l → Beside R (those p k) (those p l)
    unfolding those
    those_beside no_more = no_more
    those_beside (kept_one {a} {k} {l} h) = go (p a) (those_beside h)
      where
        go : (b : Bool) → Beside R (those p k) (those p l)
            → Beside R (cond b (a ∷ those p k) (those p k)) (cond b (a ∷ those p l) (those p l))
        go true g = kept_one g
        go false g = g
    those_beside (changed_one {a} {b} {k} {l} r h) = rw (blind a b r) (go (p b) (those_beside h))
      where
        go : (t : Bool) → Beside R (those p k) (those p l)
            → Beside R (cond t (a ∷ those p k) (those p k)) (cond t (b ∷ those p l) (those p l))
        go true g = changed_one r g
        go false g = g

  -- a number that is the same
  module _ (f : A → ℕ) (blind : (a b : A) → R a b → f a ≡ f b) where
    pub total_beside : {k l : List A} → Beside R k l → total f k ≡ total f l
    unfolding total
    total_beside no_more = refl
    total_beside (kept_one {a} h) = ap (λ n. f a + n) (total_beside h)
    total_beside (changed_one r h) = ap₂ (λ m n. m + n) (blind _ _ r) (total_beside h)

    pub greatest_beside : {k l : List A} → Beside R k l → greatest f k ≡ greatest f l
    unfolding greatest
    greatest_beside no_more = refl
    greatest_beside (kept_one {a} h) = ap (λ n. max (f a) n) (greatest_beside h)
    greatest_beside (changed_one r h) = ap₂ (λ m n. max m n) (blind _ _ r) (greatest_beside h)

module _ {A B : Type 0} {R : A → A → Type 0} where
  -- the lists made of each: the same, or side by side again
  pub lists_beside : (f : A → List B) → ((a b : A) → R a b → f a ≡ f b) → {k l : List A} → Beside R k l → each_in f k ≡ each_in f l
  unfolding each_in
  lists_beside f blind no_more = refl
  lists_beside f blind (kept_one {a} h) = ap (λ m. f a ++ m) (lists_beside f blind h)
  lists_beside f blind (changed_one r h) = ap₂ (λ m n. m ++ n) (blind _ _ r) (lists_beside f blind h)

  module _ {S : B → B → Type 0} where
    pub each_beside : (f : A → B) → ((a b : A) → R a b → S (f a) (f b)) → {k l : List A} → Beside R k l → Beside S (each f k) (each f l)
    unfolding each
    each_beside f to no_more = no_more
    each_beside f to (kept_one h) = kept_one (each_beside f to h)
    each_beside f to (changed_one r h) = changed_one (to _ _ r) (each_beside f to h)

    pub each_in_beside : (f : A → List B) → ((a b : A) → R a b → Beside S (f a) (f b)) → {k l : List A} → Beside R k l
        → Beside S (each_in f k) (each_in f l)
    unfolding each_in
    each_in_beside f to no_more = no_more
    each_in_beside f to (kept_one {a} h) = append_beside (beside_refl (f a)) (each_in_beside f to h)
    each_in_beside f to (changed_one r h) = append_beside (to _ _ r) (each_in_beside f to h)
