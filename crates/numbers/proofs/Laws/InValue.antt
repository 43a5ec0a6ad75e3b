-- A decimal beside 0 and beside 1, in value, with its power: what a program of 64 bits may ask instead.
use Rattle.std.specs.Prelude.{◌≡◌, Bool, ltb, T, ℤ, negsuc, neg_ℤ, nat_abs, ◌-ℤ◌, ◌*ℤ◌, Option, Some, None, ℕ}
use Rattle.std.proofs.Math.Path.{refl, sym, ap}
use Rattle.std.proofs.Common.{◌∙◌, true≢false, arith, pow-suc, mul_assoc, Fits, SFits, of_z, to_z}
use Rattle.std.proofs.Math.Bool.{true, false, and-false}
use Prim.Native.Nat.{ℕ, zero, suc, ◌+◌, ◌*◌, ◌^◌, ◌≤◌, ◌<◌}
use Rattle.std.proofs.Math.Dec.{eqb, leb}
use Rattle.std.specs.Int.Signed.{lt_z, non_neg}
use Rattle.std.proofs.Math.IntN.{pos, +ℤ_idl}
use mir.Syntax.{w64}
use Rattle.std.proofs.lemmas.Int.{to_z-of_z}
use borrow.Author.Tests.{ne_eqb, le-leb, lt-leb, leb-true, leb-false, ltb-true, ltb-false, le-ltb}
use Rattle.lists.proofs.Laws.Booleans.{clash}
use Rattle.numbers.specs.Numbers.{up, down, in_value, is_whole}
use Rattle.numbers.proofs.Laws.Cuts.{powers}
use Rattle.numbers.specs.Answers.{places_in}
use Rattle.numbers.specs.declared.Decimal.{Decimal}

-- a power of ten is not 0, nor is what it multiplies made 0 by it
pub ten : (k : ℕ) → 1 ≤ 10 ^ k
ten k = powers 0 k (omega arith)

pub grows : (m p : ℕ) → 1 ≤ p → m ≤ m * p
grows m zero h = elim h [ ]
grows m (suc p) h = let e : m * suc p ≡ m + m * p = omega arith in omega arith

same_zero : (m p : ℕ) → 1 ≤ p → eqb (m * p) 0 ≡ eqb m 0
same_zero zero p h = let e : 0 * p ≡ 0 = omega arith in rw e refl
same_zero (suc m) p h =
    let g = grows (suc m) p h in
    ne_eqb (suc m * p) 0 (λ e. omega arith) ∙ sym (ne_eqb (suc m) 0 λ e. omega arith)

below_zero : (n m : ℕ) → 1 ≤ m → is_whole n (neg_ℤ (pos m)) ≡ false
unfolding is_whole
below_zero n zero h = absurd (omega arith)
below_zero n (suc m) h = refl

pub zero_value : (d : Decimal) → in_value is_whole 0 d ≡ is_whole 0 d.amount
unfolding in_value is_whole
zero_value d = go d.amount (10 ^ up d.power) (ten (up d.power))
  where
    go : (a : ℤ) (p : ℕ) → 1 ≤ p → is_whole (0 * 10 ^ down d.power) (a *ℤ pos p) ≡ is_whole 0 a
    go (pos m) p h = let e : 0 * 10 ^ down d.power ≡ 0 = omega arith in rw e (same_zero m p h)
    go (negsuc m) p h = below_zero (0 * 10 ^ down d.power) (suc m * p) (let g = grows (suc m) p h in omega arith)

-- beside 1: a power above 0 makes too much, one below -18 too little
times_one : (n : ℕ) (a : ℤ) → is_whole n (a *ℤ pos (10 ^ 0)) ≡ is_whole n a
unfolding is_whole
times_one n (pos m) = let e : m * 10 ^ 0 ≡ m = omega arith in rw e refl
times_one n (negsuc m) = below_zero n (suc m * 10 ^ 0) (omega arith)

never_one : (m u : ℕ) → m * 10 ^ suc u ≡ 1 → ⊥
never_one m u e =
    let z : m * 10 ^ u * 10 ≡ 1 = mul_assoc m (10 ^ u) 10 ∙ ap (λ i. m * i) (sym (pow-suc 10 u)) ∙ e in
    omega arith

too_much : (u : ℕ) (a : ℤ) → is_whole (1 * 10 ^ 0) (a *ℤ pos (10 ^ suc u)) ≡ false
unfolding is_whole
too_much u (pos m) = ne_eqb (m * 10 ^ suc u) 1 λ e. never_one m u e
too_much u (negsuc m) = below_zero (1 * 10 ^ 0) (suc m * 10 ^ suc u) (let g = grows (suc m) (10 ^ suc u) (ten (suc u)) in omega arith)

too_little : (k : ℕ) (a : ℤ) → SFits w64 a → 18 < k → is_whole (10 ^ k) a ≡ false
unfolding is_whole
too_little k (pos m) f h =
    let p : 10 ^ 19 ≤ 10 ^ k = powers 19 k h in
    let s = f.sfits in
    ne_eqb m (10 ^ k) λ e. omega arith
too_little k (negsuc m) f h = refl

one_more : (k : ℕ) → 1 * 10 ^ k ≡ 10 ^ k
one_more k = omega arith

module _ (a : ℤ) where
  abbrev value_of : ℤ → Bool
  value_of p = is_whole (1 * 10 ^ down p) (a *ℤ pos (10 ^ up p))

  is_one : (p : ℤ) {k : ℕ} → places_in p ≡ Some k → value_of p ≡ is_whole (10 ^ k) a
  unfolding places_in up down
  is_one (pos zero) {k} e = let z : 0 ≡ k = cc in rw (sym z) (times_one 1 a)
  is_one (pos (suc u)) {k} e =
      let q : None ≡ Some k = sym (rw (lt-leb (suc u) 0 (omega arith)) refl) ∙ e in
      clash (cc)
  is_one (negsuc j) {k} e = go (leb (suc j) 18) refl
    where
      go : (t : Bool) → leb (suc j) 18 ≡ t → is_whole (1 * 10 ^ suc j) (a *ℤ pos (10 ^ 0)) ≡ is_whole (10 ^ k) a
      go true h =
          let q : Some (suc j) ≡ Some k = sym (rw h refl) ∙ e in
          let z : suc j ≡ k = cc in
          times_one (1 * 10 ^ suc j) a ∙ ap (λ i. is_whole i a) (one_more (suc j) ∙ ap (λ i. 10 ^ i) z)
      go false h = let q : None ≡ Some k = sym (rw h refl) ∙ e in clash (cc)

  is_not_one : (p : ℤ) → SFits w64 a → places_in p ≡ None → value_of p ≡ false
  unfolding places_in up down
  is_not_one (pos zero) f e = clash (cc)
  is_not_one (pos (suc u)) f e = too_much u a
  is_not_one (negsuc j) f e = go (leb (suc j) 18) refl
    where
      go : (t : Bool) → leb (suc j) 18 ≡ t → is_whole (1 * 10 ^ suc j) (a *ℤ pos (10 ^ 0)) ≡ false
      go true h = let q : Some (suc j) ≡ None = sym (rw h refl) ∙ e in clash (cc)
      go false h =
          times_one (1 * 10 ^ suc j) a
          ∙ ap (λ i. is_whole i a) (one_more (suc j)) ∙ too_little (suc j) a f (leb-false (suc j) 18 h)

module _ (d : Decimal) {r : Option ℕ} (e : r ≡ places_in d.power) where
  pub one_few : {k : ℕ} → r ≡ Some k → k ≤ 18
  unfolding places_in
  one_few {k} h = go (leb (up d.power) 0) (leb (down d.power) 18) refl refl
    where
      go : (t u : Bool) → leb (up d.power) 0 ≡ t → leb (down d.power) 18 ≡ u → k ≤ 18
      go true true i j =
          let q : Some (down d.power) ≡ Some k = sym (rw (i, j) refl) ∙ sym e ∙ h in
          let z : down d.power ≡ k = cc in
          omega (arith, leb-true (down d.power) 18 j)
      go true false i j = let q : None ≡ Some k = sym (rw (i, j) refl) ∙ sym e ∙ h in clash (cc)
      go false u i j = let q : None ≡ Some k = sym (rw i refl) ∙ sym e ∙ h in clash (cc)

  pub one_value : {k : ℕ} → r ≡ Some k → {n : ℕ} → n ≡ 10 ^ k → {t : Bool} → t ≡ is_whole n d.amount → t ≡ in_value is_whole 1 d
  unfolding in_value
  one_value h i q = q ∙ ap (λ z. is_whole z d.amount) i ∙ sym (is_one d.amount d.power (sym e ∙ h))

  pub not_one : r ≡ None → SFits w64 d.amount → false ≡ in_value is_whole 1 d
  unfolding in_value
  not_one h f = sym (is_not_one d.amount d.power f (sym e ∙ h))

-- AN AMOUNT, by its bits
not_below : (n : ℕ) → ltb n 0 ≡ true → ⊥
not_below n h = true≢false (sym h ∙ le-ltb n 0 (omega arith))

module _ (a : ℤ) (f : SFits w64 a) where
  pub less_is_not : (n : ℕ) → lt_z (to_z w64 (of_z w64 a)) (pos 0) ≡ true → false ≡ is_whole n a
  unfolding is_whole
  less_is_not n h = go a (rw (to_z-of_z w64 a f) at h)
    where
      go : (z : ℤ) → lt_z z (pos 0) ≡ true → false ≡ is_whole n z
      go (pos m) k = absurd (not_below m k)
      go (negsuc m) k = refl

  module _ (h : lt_z (to_z w64 (of_z w64 a)) (pos 0) ≡ false) where
    pub not_less : (m : ℕ) × (a ≡ pos m) × (m < 2 ^ 63)
    not_less = go a f (rw (to_z-of_z w64 a f) at h)
      where
        go : (z : ℤ) → SFits w64 z → lt_z z (pos 0) ≡ false → (m : ℕ) × (z ≡ pos m) × (m < 2 ^ 63)
        go (pos m) g k = (m, refl, g.sfits)
        go (negsuc m) g k = absurd (true≢false k)

    pub as_it_is : to_z w64 (of_z w64 a) ≡ pos not_less.0
    as_it_is = to_z-of_z w64 a f ∙ not_less.1

    pub amount_cast : T (non_neg (to_z w64 (of_z w64 a))) × Fits w64 (nat_abs (to_z w64 (of_z w64 a)))
    amount_cast = let g = not_less.2 in rw as_it_is (tt, record { fits = omega arith })

    pub amount_same : (n : ℕ) → eqb (nat_abs (to_z w64 (of_z w64 a))) n ≡ is_whole n a
    unfolding is_whole
    amount_same n = ap (λ z. eqb (nat_abs z) n) as_it_is ∙ sym (ap (is_whole n) not_less.1)

-- A POWER, by its bits
none_there : (z : ℤ) → leb (up z) 0 ≡ false → None ≡ places_in z
unfolding places_in
none_there z h = sym (rw h refl)

none_below : (z : ℤ) → leb (down z) 18 ≡ false → None ≡ places_in z
unfolding places_in
none_below z h = sym (rw (h, and-false (leb (up z) 0)) refl)

there_is : (z : ℤ) {k : ℕ} → up z ≡ 0 → down z ≡ k → k ≤ 18 → Some k ≡ places_in z
unfolding places_in
there_is z {k} h e l = sym (rw (h, e, le-leb k 18 l) refl)

record Small (x : ℤ) : Type 0 where
  size : ℕ
  opposite : pos 0 -ℤ x ≡ pos size
  few : size ≤ 18
  is : Some size ≡ places_in x

small_below : (m : ℕ) → suc m ≤ 18 → Some (suc m) ≡ places_in (negsuc m)
unfolding up down
small_below m h = there_is (negsuc m) refl refl h

small_zero : Small (pos 0)
unfolding up down
small_zero = record { size = 0; opposite = refl; few = omega arith; is = there_is (pos 0) refl refl (omega arith) }

module _ (x : ℤ) (f : SFits w64 x) where
  pub power_above : lt_z (pos 0) (to_z w64 (of_z w64 x)) ≡ true → None ≡ places_in x
  unfolding up
  power_above h = go x (rw (to_z-of_z w64 x f) at h)
    where
      go : (z : ℤ) → lt_z (pos 0) z ≡ true → None ≡ places_in z
      go (pos m) k = none_there (pos m) (lt-leb m 0 (ltb-true 0 m k))
      go (negsuc m) k = absurd (true≢false (sym k))

  pub power_below : lt_z (to_z w64 (of_z w64 x)) (negsuc 17) ≡ true → None ≡ places_in x
  unfolding down
  power_below h = go x (rw (to_z-of_z w64 x f) at h)
    where
      go : (z : ℤ) → lt_z z (negsuc 17) ≡ true → None ≡ places_in z
      go (pos m) k = absurd (true≢false (sym k))
      go (negsuc m) k = let l = ltb-true 17 m k in none_below (negsuc m) (lt-leb (suc m) 18 (omega arith))

  module _ (h : lt_z (pos 0) (to_z w64 (of_z w64 x)) ≡ false) (l : lt_z (to_z w64 (of_z w64 x)) (negsuc 17) ≡ false) where
    small : Small x
    small = go x (rw (to_z-of_z w64 x f) at h) (rw (to_z-of_z w64 x f) at l)
      where
        go : (z : ℤ) → lt_z (pos 0) z ≡ false → lt_z z (negsuc 17) ≡ false → Small z
        go (pos m) k i =
            let e : m ≡ 0 = (let j = ltb-false 0 m k in omega arith) in
            rw e small_zero
        go (negsuc m) k i =
            let j = ltb-false 17 m i in
            record { size = suc m; opposite = +ℤ_idl (pos (suc m)); few = omega arith; is = small_below m (omega arith) }

    opposite_is : pos 0 -ℤ to_z w64 (of_z w64 x) ≡ pos small.size
    opposite_is = ap (λ z. pos 0 -ℤ z) (to_z-of_z w64 x f) ∙ small.opposite

    pub opposite_fits : SFits w64 (pos 0 -ℤ to_z w64 (of_z w64 x))
    opposite_fits = let g = small.few in rw opposite_is (record { sfits = omega arith })

    back : to_z w64 (of_z w64 (pos 0 -ℤ to_z w64 (of_z w64 x))) ≡ pos small.size
    back = to_z-of_z w64 (pos 0 -ℤ to_z w64 (of_z w64 x)) opposite_fits ∙ opposite_is

    pub opposite_cast : T (non_neg (to_z w64 (of_z w64 (pos 0 -ℤ to_z w64 (of_z w64 x)))))
        × Fits w64 (nat_abs (to_z w64 (of_z w64 (pos 0 -ℤ to_z w64 (of_z w64 x)))))
    opposite_cast = let g = small.few in rw back (tt, record { fits = omega arith })

    pub absolute_places : {r : ℕ} → r ≡ nat_abs (to_z w64 (of_z w64 x)) → Some r ≡ places_in x
    unfolding small_zero
    absolute_places e =
        ap Some e ∙ ap (λ z. Some (nat_abs z)) (to_z-of_z w64 x f) ∙ go x (rw (to_z-of_z w64 x f) at h) (rw (to_z-of_z w64 x f) at l)
      where
        go : (z : ℤ) → lt_z (pos 0) z ≡ false → lt_z z (negsuc 17) ≡ false → Some (nat_abs z) ≡ places_in z
        go (pos m) k i = let e : m ≡ 0 = (let j = ltb-false 0 m k in omega arith) in rw e small_zero.is
        go (negsuc m) k i = let j = ltb-false 17 m i in small_below m (omega arith)

    pub opposite_places : Some (nat_abs (to_z w64 (of_z w64 (pos 0 -ℤ to_z w64 (of_z w64 x))))) ≡ places_in x
    opposite_places = ap (λ z. Some (nat_abs z)) back ∙ small.is
