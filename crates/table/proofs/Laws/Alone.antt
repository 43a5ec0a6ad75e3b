-- ENTRIES OF A LIST, and the one of a list that passes a test, with those before it and behind it.
use Rattle.std.specs.Prelude.{◌≡◌, Bool, ℕ, zero, suc, ◌+◌, ◌<◌, length, get_or}
use Rattle.std.proofs.Math.Path.{refl, sym, ap}
use Rattle.std.proofs.Common.{◌∙◌, le_of_suc-le-suc, not-suc-le-zero}
use mathlib.Core.List.{List, [], ◌∷◌, ◌++◌}
use Rattle.std.proofs.Math.Bool.{true, false, cond}
use native.Mathlib.Omega.{arith}
use Rattle.lists.specs.Lists.{any, those, count, each_in}
use Rattle.lists.proofs.Laws.Booleans.{or_left, or_right, or_neither, both_ways, clash}
use Rattle.lists.proofs.Laws.Lists.{count_append, none_counted}
use Rattle.table.specs.Located.{Entry, here, further}

module _ {A : Type 0} where
  -- ---- Entries.

  pub entry_at : (l : List A) (i : ℕ) (z : A) → i < length l → Entry l i (get_or l i z)
  entry_at [] i z u = absurd (not-suc-le-zero u)
  entry_at (a ∷ l) zero z u = here
  entry_at (a ∷ l) (suc i) z u = further (entry_at l i z (le_of_suc-le-suc u))

  pub entry_below : {l : List A} {i : ℕ} {a : A} → Entry l i a → i < length l
  entry_below here = omega arith
  entry_below (further e) = let u = entry_below e in omega arith

  pub entry_is : {l : List A} {i : ℕ} {a : A} → Entry l i a → (z : A) → get_or l i z ≡ a
  entry_is here z = refl
  entry_is (further e) z = entry_is e z

  -- ---- The one that passes.

  -- it stands in the list and passes, and none before it and none behind it does
  pub record Alone (p : A → Bool) (l : List A) : Type 0 where
    pub before : List A
    pub one : A
    pub behind : List A
    pub split : l ≡ before ++ (one ∷ behind)
    pub passes : p one ≡ true
    pub none_before : any p before ≡ false
    pub none_behind : any p behind ≡ false

  pub alone : (p : A → Bool) (l : List A) → count p l ≡ 1 → Alone p l
  unfolding count any
  alone p [] h = absurd (omega arith)
  alone p (a ∷ l) h = go (p a) refl h (alone p l)
    where
      go : (b : Bool) → p a ≡ b → cond b 1 0 + count p l ≡ 1 → (count p l ≡ 1 → Alone p l) → Alone p (a ∷ l)
      go true e k f = record {
        before = [];
        one = a;
        behind = l;
        split = refl;
        passes = e;
        none_before = refl;
        none_behind = none_counted p l (omega arith);
      }
      go false e k f = past e (f (omega arith))
        where
          past : p a ≡ false → Alone p l → Alone p (a ∷ l)
          past e o = record {
            before = a ∷ o.before;
            one = o.one;
            behind = o.behind;
            split = ap (λ r. a ∷ r) o.split;
            passes = o.passes;
            none_before = or_neither e o.none_before;
            none_behind = o.none_behind;
          }

  none_of : (p : A → Bool) (l : List A) → any p l ≡ false → those p l ≡ []
  unfolding any those
  none_of p [] h = refl
  none_of p (a ∷ l) h = rw (or_left (p a) (any p l) h) (none_of p l (or_right (p a) (any p l) h))

  -- where those that pass are not none, some passes
  pub some_of : (p : A → Bool) (l : List A) {r : List A} {a : A} → those p l ≡ a ∷ r → any p l ≡ true
  some_of p l h = go (any p l) refl
    where
      go : (b : Bool) → any p l ≡ b → b ≡ true
      go true e = refl
      go false e = clash (let z = sym (none_of p l e) ∙ h in cc)

  one_of : (p : A → Bool) (k : List A) (a : A) (l : List A) → any p k ≡ false → p a ≡ true → any p l ≡ false
      → those p (k ++ (a ∷ l)) ≡ a ∷ []
  unfolding any those
  one_of p [] a l h t f = rw (t, none_of p l f) refl
  one_of p (x ∷ k) a l h t f = rw (or_left (p x) (any p k) h) (one_of p k a l (or_right (p x) (any p k) h) t f)

  -- so those that pass are it alone
  pub alone_those : {p : A → Bool} {l : List A} (o : Alone p l) → those p l ≡ o.one ∷ []
  alone_those {p} o = ap (those p) o.split ∙ one_of p o.before o.one o.behind o.none_before o.passes o.none_behind

  -- where none of a list passes, this one does not
  pub fails_at : (p : A → Bool) (k : List A) (a : A) (l : List A) → any p (k ++ (a ∷ l)) ≡ false → p a ≡ false
  unfolding any
  fails_at p [] a l h = or_left (p a) (any p l) h
  fails_at p (x ∷ k) a l h = fails_at p k a l (or_right (p x) (any p (k ++ (a ∷ l))) h)

  -- ---- Lists in a row: one passes in all of them, so one list has one that passes.

  some_counted : (p : A → Bool) (l : List A) → any p l ≡ false → count p l ≡ 0
  unfolding any count
  some_counted p [] h = refl
  some_counted p (a ∷ l) h =
      let r = some_counted p l (or_right (p a) (any p l) h) in
      rw (or_left (p a) (any p l) h) (omega arith)

module _ {A B : Type 0} (p : B → Bool) (f : A → List B) where
  none_in : (l : List A) → count p (each_in f l) ≡ 0 → count (λ a. any p (f a)) l ≡ 0
  unfolding count each_in
  none_in [] h = refl
  none_in (a ∷ l) h =
      let s : count p (f a) + count p (each_in f l) ≡ 0 = sym (count_append p (f a) (each_in f l)) ∙ h in
      let x : count p (f a) ≡ 0 = omega arith in
      let r = none_in l (omega arith) in
      rw (none_counted p (f a) x) (omega arith)

  pub once_in : (l : List A) → count p (each_in f l) ≡ 1 → count (λ a. any p (f a)) l ≡ 1
  unfolding count each_in
  once_in [] h = absurd (omega arith)
  once_in (a ∷ l) h = go (any p (f a)) refl (once_in l)
    where
      sum : count p (f a) + count p (each_in f l) ≡ 1
      sum = sym (count_append p (f a) (each_in f l)) ∙ h

      here_none : any p (f a) ≡ false → count p (each_in f l) ≡ 1
      here_none e = let x = some_counted p (f a) e in let s = sum in omega arith

      go : (b : Bool) → any p (f a) ≡ b → (count p (each_in f l) ≡ 1 → count (λ x. any p (f x)) l ≡ 1)
          → cond b 1 0 + count (λ x. any p (f x)) l ≡ 1
      go false e ih = let r = ih (here_none e) in omega arith
      go true e ih = rest (count p (f a)) refl
        where
          rest : (c : ℕ) → count p (f a) ≡ c → 1 + count (λ x. any p (f x)) l ≡ 1
          rest zero q = both_ways e (none_counted p (f a) q)
          rest (suc c) q = let s = sum in let z = none_in l (omega arith) in omega arith
