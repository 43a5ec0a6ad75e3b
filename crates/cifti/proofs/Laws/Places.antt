-- Two entries of a map's models are related if and only if two indices of the map are: for condition 14, told by models, and a reader
-- that goes by the table.
use Rattle.std.specs.Prelude.{◌≡◌, ◌↔◌, Bool, true, false, ◌||◌, cond, length}
use Rattle.std.proofs.Math.Path.{refl, sym, ap}
use Rattle.std.proofs.Common.{◌∙◌}
use mathlib.Core.List.{List, [], ◌∷◌}
use Rattle.std.proofs.lemmas.Bool.{false≢true}
use Prim.Native.Nat.{ℕ, zero, suc, ◌+◌, ◌-◌, ◌<◌, ◌≤◌, suc-le-suc}
use Rattle.std.proofs.Math.Nat.{le_of_suc-le-suc, not-suc-le-zero}
use Rattle.std.proofs.Math.Decide.{dec_lt, ℕ_discrete}
use native.Mathlib.Omega.{arith}
use Rattle.std.proofs.Math.ListN.{get_or}
use Rattle.lists.proofs.Laws.Booleans.{or_elim, or_first, or_second}
use Rattle.lists.specs.Lists.{any, two_of, each_in}
use Rattle.lists.proofs.Laws.Lists.{any_in, two_append}
use Rattle.lists.proofs.Laws.Quantifiers.{any_iff, two_of_iff, OnePlace}
use Rattle.cifti.specs.Maps.{Model, covers}
use Rattle.cifti.proofs.Laws.Cover.{covers_yes, covers_is}

-- an entry stands before another: in an earlier model, or earlier in the same
pub data Before (a p b q : ℕ) : Type 0 where
  other : a < b → Before a p b q
  same : a ≡ b → p < q → Before a p b q

module _ {A : Type 0} (z : A) (r : A → A → Bool) (f : Model → List A) (m₀ : Model) where
  unfoldable pub block : List Model → ℕ → List A
  block l a = f (get_or l a m₀)

  unfoldable pub entry : List Model → ℕ → ℕ → A
  unfolding block
  entry l a p = get_or (block l a) p z

  pub record Met (l : List Model) : Type 0 where
    pub a : ℕ
    pub p : ℕ
    pub b : ℕ
    pub q : ℕ
    pub a_is : a < length l
    pub b_is : b < length l
    pub p_is : p < length (block l a)
    pub q_is : q < length (block l b)
    pub order : Before a p b q
    pub related : r (entry l a p) (entry l b q) ≡ true

  shift : {l : List Model} (m : Model) → Met l → Met (m ∷ l)
  unfolding block entry
  shift m t = record {
    a = suc t.a;
    p = t.p;
    b = suc t.b;
    q = t.q;
    a_is = suc-le-suc t.a_is;
    b_is = suc-le-suc t.b_is;
    p_is = t.p_is;
    q_is = t.q_is;
    order = up t.order;
    related = t.related;
  }
    where
      up : {a p b q : ℕ} → Before a p b q → Before (suc a) p (suc b) q
      up (other h) = other (suc-le-suc h)
      up (same e h) = same (ap suc e) h

  met_to : (l : List Model) → two_of r (each_in f l) ≡ true → Met l
  unfolding each_in two_of block entry
  met_to [] h = absurd (false≢true h)
  met_to (m ∷ l) h =
      let k = sym (two_append r (f m) (each_in f l)) ∙ h in
      or_elim (Met (m ∷ l)) (two_of r (f m) || any (λ x. any (r x) (each_in f l)) (f m)) (two_of r (each_in f l)) k
      (λ g. or_elim (Met (m ∷ l)) (two_of r (f m)) (any (λ x. any (r x) (each_in f l)) (f m)) g
      (λ e. let (p, q, t, u, v) = (two_of_iff z r (f m)).0 e in
      record {
        a = 0;
        p = p;
        b = 0;
        q = q;
        a_is = omega arith;
        b_is = omega arith;
        p_is = omega arith;
        q_is = u;
        order = same refl t;
        related = v;
      })
      (λ e. let (p, u, v) = (any_iff z (λ x. any (r x) (each_in f l)) (f m)).0 e in
      let w = sym (any_in (r (get_or (f m) p z)) f l) ∙ v in
      let (b, x, y) = (any_iff m₀ (λ n. any (r (get_or (f m) p z)) (f n)) l).0 w in
      let (q, s, t) = (any_iff z (r (get_or (f m) p z)) (f (get_or l b m₀))).0 y in
      record {
        a = 0;
        p = p;
        b = suc b;
        q = q;
        a_is = omega arith;
        b_is = suc-le-suc x;
        p_is = u;
        q_is = s;
        order = other (omega arith);
        related = t;
      }))
      (λ g. shift m (met_to l g))

  met_from : (l : List Model) (a p b q : ℕ) → a < length l → b < length l → p < length (block l a) → q < length (block l b)
      → Before a p b q → r (entry l a p) (entry l b q) ≡ true → two_of r (each_in f l) ≡ true
  unfolding each_in block entry
  met_from [] a p b q u v s t o e = absurd (not-suc-le-zero u)
  met_from (m ∷ l) zero p zero q u v s t o e =
      two_append r (f m) (each_in f l) ∙ or_first _ _ (or_first _ _ ((two_of_iff z r (f m)).1 (p, q, inner o, t, e)))
    where
      inner : Before 0 p 0 q → p < q
      inner (other h) = absurd (not-suc-le-zero h)
      inner (same h k) = k
  met_from (m ∷ l) zero p (suc b) q u v s t o e =
      two_append r (f m) (each_in f l)
      ∙ or_first _ _ (or_second (two_of r (f m)) ((any_iff z (λ x. any (r x) (each_in f l)) (f m)).1 (
        p,
        s,
        any_in (r (get_or (f m) p z)) f l ∙ (any_iff m₀ (λ n. any (r (get_or (f m) p z)) (f n)) l).1
            (b, le_of_suc-le-suc v, (any_iff z (r (get_or (f m) p z)) (f (get_or l b m₀))).1 (q, t, e)),
      )))
  met_from (m ∷ l) (suc a) p zero q u v s t o e = absurd (wrong o)
    where
      wrong : Before (suc a) p 0 q → ⊥
      wrong (other h) = not-suc-le-zero h
      wrong (same h k) = omega arith
  met_from (m ∷ l) (suc a) p (suc b) q u v s t o e =
      two_append r (f m) (each_in f l)
      ∙ or_second (two_of r (f m) || any (λ x. any (r x) (each_in f l)) (f m))
      (met_from l a p b q (le_of_suc-le-suc u) (le_of_suc-le-suc v) s t (down o) e)
    where
      down : Before (suc a) p (suc b) q → Before a p b q
      down (other h) = other (le_of_suc-le-suc h)
      down (same h k) = same (omega arith) k

  -- what stands at an index: the entry of the first model whose range the index is in
  unfoldable pub found : List Model → ℕ → A
  found [] n = z
  found (m ∷ l) n = cond (covers n m) (get_or (f m) (n - m.offset) z) (found l n)

  found_one : (l : List Model) (n a : ℕ) → a < length l → covers n (get_or l a m₀) ≡ true
      → ((j : ℕ) → j < length l → covers n (get_or l j m₀) ≡ true → j ≡ a) → found l n ≡ entry l a (n - (get_or l a m₀).offset)
  unfolding found entry block
  found_one [] n a u v w = absurd (not-suc-le-zero u)
  found_one (m ∷ l) n zero u v w = rw v refl
  found_one (m ∷ l) n (suc a) u v w = go (covers n m) refl
      (found_one l n a (le_of_suc-le-suc u) v (λ j x y. down (w (suc j) (suc-le-suc x) y)))
    where
      down : {j k : ℕ} → suc j ≡ suc k → j ≡ k
      down e = omega arith

      go : (t : Bool) → covers n m ≡ t → found l n ≡ get_or (f (get_or l a m₀)) (n - (get_or l a m₀).offset) z
          → cond t (get_or (f m) (n - m.offset) z) (found l n) ≡ get_or (f (get_or l a m₀)) (n - (get_or l a m₀).offset) z
      go true e k = absurd (let x : ◌≡◌ {A = ℕ} 0 (suc a) = w 0 (omega arith) e in omega arith)
      go false e k = k

-- a map whose every index lies in one range, whose ranges lie in the map, and whose models list as many as they count
pub record Covered {A : Type 0} (f : Model → List A) (m₀ : Model) (l : List Model) (size : ℕ) : Type 0 where
  pub one : (n : ℕ) → n < size → OnePlace m₀ (covers n) l
  pub fits : (a : ℕ) → a < length l → (get_or l a m₀).offset + (get_or l a m₀).count ≤ size
  pub lists : (a : ℕ) → a < length l → length (f (get_or l a m₀)) ≡ (get_or l a m₀).count

module _ {A : Type 0} (z : A) (r : A → A → Bool) (turned : (x y : A) → r x y ≡ true → r y x ≡ true) (f : Model → List A) (m₀ : Model)
    (l : List Model) (size : ℕ) (c : Covered f m₀ l size) where
  -- two indices are related
  pub record Twice : Type 0 where
    pub i : ℕ
    pub j : ℕ
    pub order : i < j
    pub within : j < size
    pub related : r (found z r f m₀ l i) (found z r f m₀ l j) ≡ true

  off : ℕ → ℕ
  off a = (get_or l a m₀).offset

  covered : (a p : ℕ) → a < length l → p < length (f (get_or l a m₀)) → (covers (off a + p) (get_or l a m₀) ≡ true) × (off a + p < size)
  unfolding off
  covered a p u v =
      let h = c.lists a u in
      let k = c.fits a u in
      (covers_yes (off a + p) (get_or l a m₀) (omega arith) (omega arith), omega arith)

  -- two ranges that hold one index are one model's
  alone : (n a b : ℕ) → n < size → a < length l → b < length l → covers n (get_or l a m₀) ≡ true → covers n (get_or l b m₀) ≡ true → a ≡ b
  alone n a b s u v x y = let (i, t, e, w) = c.one n s in w a u x ∙ sym (w b v y)

  at_entry : (a p : ℕ) → a < length l → p < length (f (get_or l a m₀)) → found z r f m₀ l (off a + p) ≡ entry z r f m₀ l a p
  unfolding off
  at_entry a p u v =
      let (x, s) = covered a p u v in
      let d : off a + p - off a ≡ p = omega arith in
      found_one z r f m₀ l (off a + p) a u x (λ j t y. alone (off a + p) j a s t u y x) ∙ ap (entry z r f m₀ l a) d

  clash : (a p b q : ℕ) → a < length l → b < length l → p < length (f (get_or l a m₀)) → q < length (f (get_or l b m₀)) → Before a p b q
      → off a + p ≡ off b + q → ⊥
  clash a p b q u v s t o e = go o
    where
      x : covers (off a + p) (get_or l a m₀) ≡ true
      x = (covered a p u s).0

      y : covers (off a + p) (get_or l b m₀) ≡ true
      y = rw e (covered b q v t).0

      one_model : a ≡ b
      one_model = alone (off a + p) a b (covered a p u s).1 u v x y

      go : Before a p b q → ⊥
      go (other h) = let k = one_model in omega arith
      go (same h k) = let g : off a ≡ off b = ap off h in omega arith

  pub twice_to : Met z r f m₀ l → Twice
  unfolding block
  twice_to t = go (dec_lt i j)
    where
      i : ℕ
      i = off t.a + t.p

      j : ℕ
      j = off t.b + t.q

      x : found z r f m₀ l i ≡ entry z r f m₀ l t.a t.p
      x = at_entry t.a t.p t.a_is t.p_is

      y : found z r f m₀ l j ≡ entry z r f m₀ l t.b t.q
      y = at_entry t.b t.q t.b_is t.q_is

      met : r (found z r f m₀ l i) (found z r f m₀ l j) ≡ true
      met = rw (x, y) t.related

      go : Dec (i < j) → Twice
      go (yes h) = record { i = i; j = j; order = h; within = (covered t.b t.q t.b_is t.q_is).1; related = met }
      go (no h) =
          let e = clash t.a t.p t.b t.q t.a_is t.b_is t.p_is t.q_is t.order in
          let k : j < i = below i j h e in
          record { i = j; j = i; order = k; within = (covered t.a t.p t.a_is t.p_is).1; related = turned _ _ met }
        where
          below : (i j : ℕ) → (i < j → ⊥) → (i ≡ j → ⊥) → j < i
          below i j h e = omega arith

  pub twice_from : Twice → Met z r f m₀ l
  unfolding block off
  twice_from t = go (c.one t.i (omega (arith, t.order, t.within))) (c.one t.j t.within)
    where
      go : OnePlace m₀ (covers t.i) l → OnePlace m₀ (covers t.j) l → Met z r f m₀ l
      go (a, u, v, w) (b, u', v', w') = pick (ℕ_discrete a b) (dec_lt a b)
        where
          p : ℕ
          p = t.i - off a

          q : ℕ
          q = t.j - off b

          p_is : p < length (f (get_or l a m₀))
          p_is = let (h, k) = covers_is t.i (get_or l a m₀) v in omega (arith, c.lists a u)

          q_is : q < length (f (get_or l b m₀))
          q_is = let (h, k) = covers_is t.j (get_or l b m₀) v' in omega (arith, c.lists b u')

          x : found z r f m₀ l t.i ≡ entry z r f m₀ l a p
          x = found_one z r f m₀ l t.i a u v w

          y : found z r f m₀ l t.j ≡ entry z r f m₀ l b q
          y = found_one z r f m₀ l t.j b u' v' w'

          met : r (entry z r f m₀ l a p) (entry z r f m₀ l b q) ≡ true
          met = rw (x, y) at t.related

          pick : Dec (a ≡ b) → Dec (a < b) → Met z r f m₀ l
          pick (yes e) d =
              let (h, k) = covers_is t.i (get_or l a m₀) v in
              let g : off a ≡ off b = ap off e in
              record {
                a = a;
                p = p;
                b = b;
                q = q;
                a_is = u;
                b_is = u';
                p_is = p_is;
                q_is = q_is;
                order = same e (omega (arith, t.order));
                related = met;
              }
          pick (no e) (yes d) = record {
            a = a;
            p = p;
            b = b;
            q = q;
            a_is = u;
            b_is = u';
            p_is = p_is;
            q_is = q_is;
            order = other d;
            related = met;
          }
          pick (no e) (no d) = record {
            a = b;
            p = q;
            b = a;
            q = p;
            a_is = u';
            b_is = u;
            p_is = q_is;
            q_is = p_is;
            order = other (omega arith);
            related = turned _ _ met;
          }

  -- two entries of the models are related if and only if two indices of the map are
  pub two_iff : (two_of r (each_in f l) ≡ true) ↔ Twice
  two_iff = (
    λ h. twice_to (met_to z r f m₀ l h),
    λ t. let m = twice_from t in
        met_from z r f m₀ l m.a m.p m.b m.q m.a_is m.b_is m.p_is m.q_is m.order m.related,
  )
