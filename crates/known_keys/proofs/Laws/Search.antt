-- A search by halves among numbers in order. Assumes nothing.
use Rattle.std.specs.Prelude.{◌≡◌, refl, Bool, true, false, cond, List, [], ◌∷◌, ℕ, zero, suc, ◌+◌, ◌-◌, ◌/◌, ◌≤◌, ◌<◌, leb, eqb}
use Rattle.std.proofs.Math.Path.{ap}
use Rattle.std.proofs.Common.{◌∙◌, rules, leb-true, le-leb, eqb-true, eq-eqb}
use native.Mathlib.Omega.{arith}
use Rattle.std.proofs.Math.Decide.{dec_lt}
use Rattle.std.proofs.Math.ListN.{length, get_or}
use Rattle.lists.specs.Lists.{count}
use Rattle.lists.proofs.Laws.Booleans.{and_left, and_right, refute}
use Rattle.lists.specs.Reordered.{member}
use Rattle.lists.proofs.Laws.Reordered.{absent}
use Rattle.known_keys.specs.Order.{ordered_from, in_order}
use Rattle.known_keys.specs.Known.{Nearest, Placed}

-- ---- A number that stands there does so at a place.

pub record At (x : ℕ) (l : List ℕ) : Type 0 where
  pub place : ℕ
  pub inside : place < length l
  pub holds : get_or l place 0 ≡ x

place_of : (x : ℕ) (l : List ℕ) → 1 ≤ count (λ y. eqb y x) l → At x l
unfolding count
place_of x [] h = absurd (omega arith)
place_of x (y ∷ l) h = go (eqb y x) refl h (place_of x l)
  where
    go : (b : Bool) → eqb y x ≡ b → 1 ≤ cond b 1 0 + count (λ y. eqb y x) l → (1 ≤ count (λ y. eqb y x) l → At x l) → At x (y ∷ l)
    go true e k on = record { place = 0; inside = omega arith; holds = eqb-true y x e }
    go false e k on =
        let a = on (omega arith) in
        let u = a.inside in
        record { place = suc a.place; inside = omega arith; holds = a.holds }

of_place : (x : ℕ) (l : List ℕ) (i : ℕ) → i < length l → get_or l i 0 ≡ x → 1 ≤ count (λ y. eqb y x) l
unfolding count
of_place x [] i h e = absurd (omega arith)
of_place x (y ∷ l) zero h e = rw (eq-eqb y x e) (omega arith)
of_place x (y ∷ l) (suc i) h e = let r = of_place x l i (omega arith) e in omega arith

pub stands : (x : ℕ) (l : List ℕ) → member x l ≡ true → At x l
unfolding member
stands x l h = place_of x l (leb-true 1 (count (λ y. eqb y x) l) h)

pub held : (x : ℕ) (l : List ℕ) (i : ℕ) → i < length l → get_or l i 0 ≡ x → member x l ≡ true
unfolding member
held x l i h e = le-leb 1 (count (λ y. eqb y x) l) (of_place x l i h e)

-- ---- In order: what stands before is not above.

least_of : (n : ℕ) (l : List ℕ) → ordered_from n l ≡ true → (j : ℕ) → j < length l → n ≤ get_or l j 0
unfolding ordered_from
least_of n [] o j h = absurd (omega arith)
least_of n (c ∷ l) o zero h = leb-true n c (and_left (leb n c) (ordered_from c l) o)
least_of n (c ∷ l) o (suc j) h =
    let a = leb-true n c (and_left (leb n c) (ordered_from c l) o) in
    let b = least_of c l (and_right (leb n c) (ordered_from c l) o) j (omega arith) in
    omega arith

rising : (n : ℕ) (l : List ℕ) → ordered_from n l ≡ true → (i j : ℕ) → i ≤ j → j < length l → get_or l i 0 ≤ get_or l j 0
unfolding ordered_from
rising n [] o i j h k = absurd (omega arith)
rising n (c ∷ l) o zero zero h k = omega arith
rising n (c ∷ l) o zero (suc j) h k = least_of c l (and_right (leb n c) (ordered_from c l) o) j (omega arith)
rising n (c ∷ l) o (suc i) zero h k = absurd (omega arith)
rising n (c ∷ l) o (suc i) (suc j) h k = rising c l (and_right (leb n c) (ordered_from c l) o) i j (omega arith) (omega arith)

-- ---- The search: from `low` on so many places are left; those behind them are above, and none before is higher than that at `low`.

pub record Halfway (keys : List ℕ) (code low n : ℕ) : Type 0 where
  pub ordered : in_order keys ≡ true
  pub some : 0 < n
  pub inside : low + n ≤ length keys
  pub up_to : 0 < low → get_or keys low 0 ≤ code
  pub past : (k : ℕ) → low + n ≤ k → k < length keys → code < get_or keys k 0

pub halfway_start : {keys : List ℕ} (code : ℕ) → (in_order keys ≡ true) × (0 < length keys) → Halfway keys code 0 (length keys)
halfway_start code (o, h) = record {
  ordered = o;
  some = h;
  inside = omega arith;
  up_to = λ u. absurd (omega arith);
  past = λ k u v. absurd (omega arith);
}

module _ {keys : List ℕ} {code low n : ℕ} (go : Halfway keys code low n) where
  pub halfway_up : 1 < n → get_or keys (low + n / 2) 0 ≤ code → Halfway keys code (low + n / 2) (n - n / 2)
  halfway_up h u =
      let i = go.inside in
      record {
        ordered = go.ordered;
        some = omega arith;
        inside = omega arith;
        up_to = λ v. u;
        past = λ k v w. go.past k (omega arith) w;
      }

  pub halfway_down : 1 < n → code < get_or keys (low + n / 2) 0 → Halfway keys code low (n - n / 2)
  unfolding in_order
  halfway_down h u =
      let i = go.inside in
      record {
        ordered = go.ordered;
        some = omega arith;
        inside = omega arith;
        up_to = go.up_to;
        past = λ k v w. go' k v w (dec_lt k (low + n / 2));
      }
    where
      go' : (k : ℕ) → low + (n - n / 2) ≤ k → k < length keys → Dec (k < low + n / 2) → code < get_or keys k 0
      go' k v w (yes b) = absurd (omega arith)
      go' k v w (no b) = let z = rising 0 keys go.ordered (low + n / 2) k (omega arith) w in omega arith

  pub halfway_done : n ≤ 1 → Nearest keys code low
  unfolding in_order
  halfway_done h =
      let i = go.inside in
      let s = go.some in
      record { inside = omega arith; there = λ m. here (stands code keys m) }
    where
      here : At code keys → get_or keys low 0 ≡ code
      here a =
          let i = go.inside in
          let s = go.some in
          let h' = a.holds in
          let u = a.inside in
          by (dec_lt a.place low) (dec_lt low a.place)
        where
          by : Dec (a.place < low) → Dec (low < a.place) → get_or keys low 0 ≡ code
          by (yes p) q =
              let i = go.inside in
              let s = go.some in
              let h' = a.holds in
              let r = rising 0 keys go.ordered a.place low (omega arith) (omega arith) in
              let t = go.up_to (omega arith) in
              omega arith
          by (no p) (yes q) =
              let i = go.inside in
              let s = go.some in
              let h' = a.holds in
              let u = a.inside in
              let t = go.past a.place (omega arith) u in
              absurd (omega arith)
          by (no p) (no q) = let e : low ≡ a.place = omega arith in ap (λ (n : ℕ). get_or keys n 0) e ∙ a.holds

pub ruleset halving = (halfway_start, halfway_up, halfway_down, halfway_done, rules)

-- ---- A place of the number.

pub placed_at : {keys : List ℕ} {code at : ℕ} → at < length keys → get_or keys at 0 ≡ code → Placed keys code at
placed_at h e = record { found = λ u. e; missed = λ u. absurd (omega arith) }

pub placed_nowhere : {keys : List ℕ} {code at : ℕ} → Nearest keys code at → (get_or keys at 0 ≡ code → ⊥) → Placed keys code (length keys)
placed_nowhere {keys} {code} n h = record {
  found = λ u. absurd (omega arith);
  missed = λ u. refute (member code keys) (λ m. h (n.there m));
}

pub placed_none : {keys : List ℕ} {code : ℕ} → length keys ≡ 0 → Placed keys code 0
unfolding member
placed_none {keys} {code} h =
    let z : count (λ y. eqb y code) keys ≡ 0 = absent code keys (λ k u. absurd (omega arith)) in
    record { found = λ u. absurd (omega arith); missed = λ u. rw z refl }

-- what stands there is a member
pub placed_member : {keys : List ℕ} {code at : ℕ} → Placed keys code at → at < length keys → member code keys ≡ true
placed_member {keys} {code} {at} p h = held code keys at h (p.found h)

pub ruleset placing = (placed_at, placed_nowhere, placed_none, rules)
