-- What is proved of Ranges.
use Rattle.std.specs.Prelude.{◌≡◌, refl, List, [], ◌∷◌, Bool, true, false, cond, length, get_or, Some, None}
use Rattle.std.proofs.Common.{sym, ap, ◌∙◌, subst, le_of_suc-le-suc, not-suc-le-zero, arith}
use Prim.Native.Nat.{ℕ, zero, suc, ◌+◌, ◌-◌, ◌<◌, ◌≤◌}
use Rattle.std.proofs.Math.Decide.{dec_lt}
use Rattle.std.proofs.Math.Dec.{eqb}
use borrow.Author.Tests.{eqb-true, eq-eqb}
use Rattle.lists.proofs.Laws.Booleans.{refute, both_ways, never_some}
use Rattle.lists.specs.Lists.{count, total, count_up}
use Rattle.lists.proofs.Laws.Quantifiers.{OnePlace, count_one_iff, all_below_iff}
use Rattle.lists.specs.Ranges.{OnceBelow, Range, in_range, sum_of, tiling, begins_at, Chain, start, on}
use Rattle.lists.proofs.Laws.Tiled.{holds_is, holds_yes, ranges_within, held_once}

-- every range holds one index at least
module _ {A : Type 0} (size : A → ℕ) where
  pub data Counting : List A → Type 0 where
    none_counts : Counting []
    one_counts : {a : A} {l : List A} → 1 ≤ size a → Counting l → Counting (a ∷ l)

  pub counting_up : (f : ℕ → A) (i n : ℕ) → ((k : ℕ) → i ≤ k → k < i + n → 1 ≤ size (f k)) → Counting (count_up f i n)
  unfolding count_up
  counting_up f i zero h = none_counts
  counting_up f i (suc n) h =
      one_counts (h i (omega arith) (omega arith)) (counting_up f (suc i) n (λ k u v. h k (omega arith) (omega arith)))

in_range_lem : (n : ℕ) (r : Range) → r.offset ≤ n → n < r.offset + r.size → in_range n r ≡ true
in_range_lem = holds_yes (λ (r : Range). r.offset) (λ (r : Range). r.size)

range_in : (n : ℕ) (r : Range) → in_range n r ≡ true → (r.offset ≤ n) × (n < r.offset + r.size)
range_in = holds_is (λ (r : Range). r.offset) (λ (r : Range). r.size)

nowhere : Range
nowhere = record { offset = 0; size = 0 }

-- what begins there: its offset, its size, its place, and at each of its indices one range at least
record Begins (l : List Range) (c : ℕ) (r : Range) : Type 0 where
  offset_is : r.offset ≡ c
  counts : 1 ≤ r.size
  place : ℕ
  is_place : place < length l
  stands : get_or l place nowhere ≡ r
  held : (i : ℕ) → c ≤ i → i < c + r.size → 1 ≤ count (in_range i) l

begins : (l : List Range) (c : ℕ) (r : Range) → Counting (λ (x : Range). x.size) l → begins_at c l ≡ Some r → Begins l c r
unfolding begins_at count
begins [] c r n h = never_some h
begins (x ∷ l) c r (one_counts one more) h = go (eqb x.offset c) refl h (begins l c r more)
  where
    go : (b : Bool) → eqb x.offset c ≡ b → cond b (Some x) (begins_at c l) ≡ Some r → (begins_at c l ≡ Some r → Begins l c r)
        → Begins (x ∷ l) c r
    go true e k ih =
        let q : x ≡ r = cc in
        let o = eqb-true x.offset c e in
        let b : Begins (x ∷ l) c x = record {
          offset_is = o;
          counts = one;
          place = 0;
          is_place = omega arith;
          stands = refl;
          held =
              λ i u v. (let y : in_range i x ≡ true = in_range_lem i x (omega arith) (omega arith) in rw y (omega arith));
        } in
        subst (λ (y : Range). Begins (x ∷ l) c y) q b
    go false e k ih =
        let b = ih k in
        record {
          offset_is = b.offset_is;
          counts = b.counts;
          place = suc b.place;
          is_place = let u = b.is_place in omega arith;
          stands = b.stands;
          held = λ i u v. (let w = b.held i u v in omega arith);
        }

none_begins : (l : List Range) (c : ℕ) → begins_at c l ≡ None → (i : ℕ) → i < length l → (get_or l i nowhere).offset ≡ c → ⊥
unfolding begins_at
none_begins [] c h i u e = not-suc-le-zero u
none_begins (x ∷ l) c h i u e = go (eqb x.offset c) refl h i u e (none_begins l c)
  where
    go : (t : Bool) → eqb x.offset c ≡ t → cond t (Some x) (begins_at c l) ≡ None → (i : ℕ) → i < length (x ∷ l)
        → (get_or (x ∷ l) i nowhere).offset ≡ c
        → (begins_at c l ≡ None → (i : ℕ) → i < length l → (get_or l i nowhere).offset ≡ c → ⊥) → ⊥
    go true q k i u e ih = never_some (sym k)
    go false q k zero u e ih = both_ways (eq-eqb x.offset c e) q
    go false q k (suc i) u e ih = ih k i (le_of_suc-le-suc u) e

module _ (l : List Range) (counting : Counting (λ (x : Range). x.size) l) where
  -- all that the chain has passed is held
  chain_holds : {c : ℕ} → Chain l c → (i : ℕ) → i < c → 1 ≤ count (in_range i) l
  chain_holds start i h = absurd (not-suc-le-zero h)
  chain_holds (on {c} {r} k e) i h = go (dec_lt i c) (λ u. chain_holds k i u)
    where
      go : Dec (i < c) → (i < c → 1 ≤ count (in_range i) l) → 1 ≤ count (in_range i) l
      go (yes u) before = before u
      go (no u) before = (begins l c r counting e).held i (omega arith) h

  once_of : tiling l ≡ true → OnceBelow (λ (x : Range). x.offset) (λ (x : Range). x.size) l (total (λ x. x.size) l)
  unfolding tiling sum_of
  once_of h i u = eqb-true (count (in_range i) l) 1 ((all_below_iff (sum_of l) (λ n. eqb (count (in_range n) l) 1)).0 h i u)

  -- the chain cannot pass the sum
  within_sum : tiling l ≡ true → {c : ℕ} → Chain l c → c ≤ total (λ x. x.size) l
  within_sum t start = omega arith
  within_sum t (on {c} {r} k e) =
      let b = begins l c r counting e in
      let w = ranges_within (λ (x : Range). x.offset) (λ (x : Range). x.size) nowhere l (once_of t) b.place b.is_place in
      let w₁ : 1 ≤ r.size → r.offset + r.size ≤ total (λ x. x.size) l = rw b.stands at w in
      let o = b.offset_is in
      let f = w₁ b.counts in
      omega arith

  -- nor stop before it
  goes_on : tiling l ≡ true → {c : ℕ} → Chain l c → c < total (λ x. x.size) l → begins_at c l ≡ None → ⊥
  goes_on t {c} k u none = go ((count_one_iff nowhere (in_range c) l).0 (once_of t c u)) k none u
    where
      go : {c : ℕ} → OnePlace nowhere (in_range c) l → Chain l c → begins_at c l ≡ None → c < total (λ x. x.size) l → ⊥
      go {c} (i, p, q, w) start none u =
          let (x, y) = range_in 0 (get_or l i nowhere) q in
          none_begins l 0 none i p (omega arith)
      go (i, p, q, w) (on {c} {r} k e) none u =
          let b = begins l c r counting e in
          let (x, y) = range_in (c + r.size) (get_or l i nowhere) q in
          let d : ℕ = c + r.size - 1 in
          let big = b.counts in
          let (h, _, _, alone) = (count_one_iff nowhere (in_range d) l).0 (once_of t d (omega arith)) in
          let o = b.offset_is in
          let mine : in_range d (get_or l b.place nowhere) ≡ true = rw b.stands (in_range_lem d r (omega arith) (omega arith)) in
          let here = alone b.place b.is_place mine in
          let away : (get_or l i nowhere).offset ≡ c + r.size → ⊥ = none_begins l (c + r.size) none i p in
          let lower : (get_or l i nowhere).offset ≤ d = omega arith in
          let also : in_range d (get_or l i nowhere) ≡ true = in_range_lem d (get_or l i nowhere) lower (omega arith) in
          let same = alone i p also in
          let one : i ≡ b.place = same ∙ sym here in
          let r_is : get_or l i nowhere ≡ r = ap (λ n. get_or l n nowhere) one ∙ b.stands in
          let y₁ : c + r.size < r.offset + r.size = rw r_is at y in
          omega arith

  -- THE CHAIN DECIDES: it comes out at the sum, and the ranges tile; or it passes the sum, or stops before it, and they do not
  pub chain_through : Chain l (sum_of l) → tiling l ≡ true
  unfolding sum_of tiling
  chain_through c =
      (all_below_iff (sum_of l) (λ n. eqb (count (in_range n) l) 1)).1
      (λ i u. eq-eqb (count (in_range i) l) 1 (held_once (λ (x : Range). x.offset) (λ (x : Range). x.size) l (chain_holds c) i u))

  pub chain_past : {c : ℕ} → Chain l c → sum_of l < c → tiling l ≡ false
  unfolding sum_of
  chain_past k h = refute (tiling l) (λ t. (let w = within_sum t k in omega arith))

  pub chain_stops : {c : ℕ} → Chain l c → c < sum_of l → begins_at c l ≡ None → tiling l ≡ false
  unfolding sum_of
  chain_stops k h none = refute (tiling l) (λ t. goes_on t k h none)
