-- Lists made of lists, where a test holds of every member. Assumes nothing.
use Rattle.std.specs.Prelude.{◌≡◌, Bool, true, ℕ, zero, suc, ◌<◌, length, get_or}
use Rattle.std.proofs.Math.Path.{refl}
use mathlib.Core.List.{List, [], ◌∷◌, map}
use Rattle.std.proofs.Common.{not-suc-le-zero, le_of_suc-le-suc}
use Rattle.lists.specs.Lists.{all}
use Rattle.lists.proofs.Laws.Booleans.{and_left, and_right, and_both}

module _ {A B : Type 0} (p : A → Bool) where
  -- a test of what is made holds of all
  pub all_made : (q : B → Bool) (g : A → B) → ((a : A) → p a ≡ true → q (g a) ≡ true) → (l : List A) → all p l ≡ true
      → all q (map g l) ≡ true
  unfolding all
  all_made q g h [] e = refl
  all_made q g h (a ∷ l) e =
      and_both (h a (and_left (p a) (all p l) e)) (all_made q g h l (and_right (p a) (all p l) e))

  -- what is made is made back
  pub made_back : (f : B → A) (g : A → B) → ((a : A) → p a ≡ true → f (g a) ≡ a) → (l : List A) → all p l ≡ true → map f (map g l) ≡ l
  unfolding all
  made_back f g h [] e = refl
  made_back f g h (a ∷ l) e = λ k. h a (and_left (p a) (all p l) e) k ∷ made_back f g h l (and_right (p a) (all p l) e) k

module _ {A B C : Type 0} where
  -- two steps are one
  pub made_twice : (f : B → C) (g : A → B) (h : A → C) → ((a : A) → f (g a) ≡ h a) → (l : List A) → map f (map g l) ≡ map h l
  made_twice f g h e [] = refl
  made_twice f g h e (a ∷ l) = λ k. e a k ∷ made_twice f g h e l k

-- the test of one member
pub all_at : (p : ℕ → Bool) (l : List ℕ) (i : ℕ) → i < length l → all p l ≡ true → p (get_or l i 0) ≡ true
unfolding all
all_at p [] i h e = absurd (not-suc-le-zero h)
all_at p (a ∷ l) zero h e = and_left (p a) (all p l) e
all_at p (a ∷ l) (suc i) h e = all_at p l i (le_of_suc-le-suc h) (and_right (p a) (all p l) e)

-- what is made of one member
pub made_at : (f : ℕ → ℕ) (l : List ℕ) (i : ℕ) → i < length l → get_or (map f l) i 0 ≡ f (get_or l i 0)
made_at f [] i h = absurd (not-suc-le-zero h)
made_at f (a ∷ l) zero h = refl
made_at f (a ∷ l) (suc i) h = made_at f l i (le_of_suc-le-suc h)
